-- Which answer is defined for an input, and what it says of it.
use Rattle.std.proofs.Common.{◌≡◌, ◌∙◌, ℕ, ◌-◌, ◌≤◌, inl, inr, Bool, true, false, List, [], ◌∷◌, ◌++◌, length, drop, Option, Some, None, Err, ap, sym, subst, refl, append-nil, arith}
use Rattle.std.specs.Prelude.{if◌then◌else◌, nat_le}
use Rattle.std.proofs.lemmas.Bool.{leb-false}
use Rattle.batch_records.specs.DayRecord.{Day}
use Rattle.batch_records.specs.declared.day.DayCode.{DayCode}
use Rattle.batch_records.specs.Days.{day_of_bytes}
use Rattle.batch_records.specs.Sound.{is_sound}
use Rattle.commit_journal.specs.Line.{History}
use Rattle.commit_journal.specs.Histories.{oldest}
use Rattle.commit_journal.specs.Text.{journal_text}
use Rattle.machine.specs.Legal.{IsLegal}
use Rattle.machine.specs.Words.{is_empty}
use Rattle.journal_replay.specs.Verdicts.{NoneFollows, followed, longest, next_line}
use Rattle.journal_replay.proofs.Following.{along, longest_is, next_stands}
use Rattle.outside_io.specs.Pieces.{HasPut, IsCutShort, SinkState}
use Rattle.outside_io.proofs.PutLemmas.{cut_front, has_put_none, has_put_then}
use Rattle.settlement_laws.proofs.EachLaw.AllLaws.{all_laws}
use Rattle.program_answers.specs.Answers.{Answer, done, ok_text, refused}
use Rattle.program_answers.specs.Giving.{Says, SaysIfRoom, SaysOneIfRoom}
use Rattle.program_answers.specs.Inputs.{IsGiven}
use Rattle.program_answers.proofs.DayAnswers.{answer_over, answer_refused}
use Rattle.day_reasons.specs.declared.words.Request.{Request}
use Rattle.day_reasons.specs.Ends.{after_text, end_answer, lines_before, lines_up_to}
use Rattle.day_reasons.specs.Promises.{IsAnswer, IsDefined, answer_of_followed, answer_of_rest, longest_input, told, wrong}
use Rattle.day_reasons.specs.Told.{beginning, messages_text, place_in}
use Rattle.day_reasons.specs.Wrong.{wrong_text}
use Rattle.day_reasons.proofs.Along.{grows}

-- ---- the rest

-- the longest legal journal with whose text the rest begins
pub record Begins (day : Day) (rest : List ℕ) (read : History × List ℕ) : Type 0 where
  pub legal : IsLegal day read.0
  pub text_is : rest ≡ journal_text read.0 ++ read.1
  pub none : NoneFollows day read.0 read.1
  pub only : (other : History) → IsLegal day other → rest ≡ journal_text other → (other, []) ≡ read
  pub furthest : (other : History) (more : List ℕ) → IsLegal day other → rest ≡ journal_text other ++ more → length other ≤ length read.0

not_both : {X : Type 0} (o : Option X) (x : X) → o ≡ None → o ≡ Some x → ⊥
not_both None x h k = cc
not_both (Some y) x h k = cc

none_follows : (day : Day) → is_sound day ≡ true → (past : History) (bytes : List ℕ) → next_line day past bytes ≡ None → NoneFollows day past bytes
none_follows day sound past bytes last l rest legal e = not_both (next_line day past bytes) (l, rest) last (ap (next_line day past) e ∙ next_stands day sound past l rest legal)

whole : (day : Day) → is_sound day ≡ true → (other : History) → IsLegal day other → longest day (journal_text other) ≡ (other, [])
unfolding followed
whole day sound other legal = ap (longest day) (sym (append-nil (journal_text other))) ∙ along day sound _ other [] legal (omega arith)

no_further : (day : Day) → is_sound day ≡ true → (other : History) (more : List ℕ) → IsLegal day other → length other ≤ length (longest day (journal_text other ++ more)).0
no_further day sound other more legal =
    subst (λ (read : History × List ℕ). length other ≤ length read.0) (sym (along day sound (length (journal_text other ++ more)) other more legal (omega arith))) (grows (length more) day other more)

begins : (day : Day) (rest : List ℕ) → is_sound day ≡ true → Begins day rest (longest day rest)
unfolding journal_text
begins day rest sound =
    let is = longest_is day rest in
    record {
      legal = is.legal;
      text_is = is.text;
      none = none_follows day sound _ _ is.last;
      only = λ other legal e. sym (ap (longest day) e ∙ whole day sound other legal);
      furthest = λ other more legal e. subst (λ (text : List ℕ). length other ≤ length (longest day text).0) (sym e) (no_further day sound other more legal);
    }

empty_is : (xs : List ℕ) → is_empty xs ≡ true → xs ≡ []
empty_is [] h = refl
empty_is (x ∷ xs) h = cc

empty_not : (xs : List ℕ) → is_empty xs ≡ false → xs ≡ [] → ⊥
empty_not [] h e = cc
empty_not (x ∷ xs) h e = cc

-- ---- the lines over which is told

up_to_is : (J : History) (o : Option ℕ) → oldest J (lines_up_to o (length J)) ≡ oldest J (place_in J o)
up_to_is J None = refl
up_to_is J (Some place) = here (nat_le place (length J)) refl
  where
    here : (b : Bool) → nat_le place (length J) ≡ b → oldest J (if b then place else length J) ≡ oldest J place
    here true e = refl
    here false e =
        let late : length J ≤ place = omega (arith, leb-false place (length J) e) in
        let same : length J - length J ≡ length J - place = omega (arith, late) in
        ap (λ (k : ℕ). drop k J) same

pub beginning_is : (r : Request) (J : History) → oldest J (lines_before r (length J)) ≡ beginning r J
beginning_is r J = up_to_is J r.place

-- ---- how it is said

-- one text after another
pub says_after : {S : Type 0} (state : S → SinkState) (old mid new : S) (text : List ℕ) (answer : Answer) (status : ℕ) → HasPut (state old) (state mid) text → Says (state mid) (state new) answer status → Says (state old) (state new) (after_text text answer) status
says_after state old mid new text answer status put (inl said) = inl (said.0, has_put_then _ _ _ _ _ put said.1)
says_after state old mid new text answer status put (inr cut) =
    inr (cut.0, subst (λ (all : List ℕ). IsCutShort (state old) (state new) (text ++ all)) (append-nil answer.text) (cut_front _ _ _ text answer.text [] put cut.1))

-- or not all of the first
pub says_cut : {S : Type 0} (state : S → SinkState) (old new : S) (text : List ℕ) (answer : Answer) → IsCutShort (state old) (state new) text → Says (state old) (state new) (after_text text answer) 5
says_cut state old new text answer cut = inr (refl, cut_front _ _ _ [] text answer.text (has_put_none _) cut)

-- the messages, and then how it ends
pub parts_are : (r : Request) (day : Day) (J K : History) (behind : List ℕ) → K ≡ beginning r J → after_text (messages_text day K) (end_answer day J behind) ≡ answer_of_followed r day (J, behind)
parts_are r day J K behind e = ap (λ (H : History). after_text (messages_text day H) (end_answer day J behind)) e ∙ here (is_empty behind)
  where
    here : (b : Bool) → after_text (messages_text day (beginning r J)) (if b then done (ok_text (length day.messages)) else record { status = 6; text = wrong_text day J behind }) ≡ (if b then done (told r day J) else wrong r day J behind)
    here true = refl
    here false = refl

module _ (r : Request) where
  -- ---- what each answer says

  rest_answer : (bytes : List ℕ) (day : Day) (rest : List ℕ) → IsGiven longest_input bytes day rest → (read : History × List ℕ) → Begins day rest read → IsAnswer r bytes (answer_of_followed r day read)
  rest_answer bytes day rest given read is = go (is_empty read.1) refl
    where
      go : (b : Bool) → is_empty read.1 ≡ b → IsAnswer r bytes (if b then done (told r day read.0) else wrong r day read.0 read.1)
      go true e = inl (
        refl,
        record {
          day = day;
          rest = rest;
          given = given;
          journal = read.0;
          legal = is.legal;
          laws = all_laws day read.0 given.sound is.legal;
          text_is = is.text_is ∙ ap (λ (xs : List ℕ). journal_text read.0 ++ xs) (empty_is read.1 e) ∙ append-nil (journal_text read.0);
          one = λ another legal same. ap (λ (x : History × List ℕ). x.0) (is.only another legal same);
          is = refl;
        },
      )
      go false e = inr (inr (inl (
        refl,
        record {
          day = day;
          rest = rest;
          given = given;
          before = read.0;
          behind = read.1;
          legal = is.legal;
          text_is = is.text_is;
          more = empty_not read.1 e;
          none = is.none;
          furthest = is.furthest;
          no_journal = λ another legal same. empty_not read.1 e (sym (ap (λ (x : History × List ℕ). x.1) (is.only another legal same)));
          is = refl;
        },
      )))

  one_of : {S : Type 0} (state : S → SinkState) (old new : S) (bytes : List ℕ) (answer : Answer) (status : ℕ) → IsDefined r bytes answer → SaysIfRoom state old new answer status → SaysOneIfRoom state old new (IsDefined r bytes) status
  one_of state old new bytes answer status is (inl none) = inl none
  one_of state old new bytes answer status is (inr said) = inr (answer, is, said)

  -- a day was read
  pub says_day : {S : Type 0} (state : S → SinkState) (old new : S) (bytes : List ℕ) (day : Day) (rest : List ℕ) (status : ℕ) → IsGiven longest_input bytes day rest →
      SaysIfRoom state old new (answer_of_rest r day rest) status → SaysOneIfRoom state old new (IsDefined r bytes) status
  says_day state old new bytes day rest status given said =
      one_of state old new bytes (answer_of_rest r day rest) status (sym (answer_over longest_input _ bytes day rest given), rest_answer bytes day rest given (longest day rest) (begins day rest given.sound)) said

  -- or refused
  pub says_refused : {S : Type 0} (state : S → SinkState) (old new : S) (bytes : List ℕ) (number : ℕ) (code : DayCode) (status : ℕ) → length bytes ≤ longest_input → day_of_bytes bytes ≡ Err (number, code) →
      Says (state old) (state new) (refused number code) status → SaysOneIfRoom state old new (IsDefined r bytes) status
  says_refused state old new bytes number code status short e said =
      inr (refused number code, (sym (answer_refused longest_input _ bytes number code short e), inr (inl (refl, record { short = short; number = number; code = code; refused = e; is = refl }))), said)
