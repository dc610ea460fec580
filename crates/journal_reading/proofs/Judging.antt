-- Which answer is defined for an input, and what it says of it.
use Rattle.std.proofs.Common.{◌≡◌, ◌∙◌, ℕ, suc, ◌≤◌, inl, inr, Bool, true, false, List, [], ◌∷◌, ◌++◌, length, Option, Some, None, Err, ap, sym, subst, refl, append-nil, arith}
use Rattle.std.specs.Prelude.{if◌then◌else◌}
use Rattle.batch_records.specs.DayRecord.{Day}
use Rattle.batch_records.specs.declared.day.DayCode.{DayCode}
use Rattle.batch_records.specs.Days.{day_of_bytes}
use Rattle.batch_records.specs.Sound.{is_sound}
use Rattle.commit_journal.specs.Line.{History}
use Rattle.commit_journal.specs.Text.{journal_text}
use Rattle.machine.specs.Legal.{IsLegal}
use Rattle.machine.specs.Words.{is_empty}
use Rattle.journal_replay.specs.Verdicts.{NoneFollows, followed, longest, next_line}
use Rattle.journal_replay.proofs.Following.{along, longest_is, next_stands}
use Rattle.outside_io.specs.Pieces.{SinkState}
use Rattle.settlement_laws.proofs.EachLaw.AllLaws.{all_laws}
use Rattle.program_answers.specs.Answers.{Answer, done, illegal, refused}
use Rattle.program_answers.specs.Giving.{Says, SaysIfRoom, SaysOneIfRoom}
use Rattle.program_answers.specs.Inputs.{IsGiven}
use Rattle.program_answers.proofs.DayAnswers.{answer_over, answer_refused}
use Rattle.journal_reading.specs.Answers.{Told, answer_of_followed, answer_of_rest, longest_input}
use Rattle.journal_reading.specs.Programs.{IsAnswer, IsDefined, IsTold}
use Rattle.journal_reading.proofs.ReadingLaws.{grows}

-- ---- the rest

-- the longest legal journal with whose text the rest begins
pub record Begins (day : Day) (rest : List ℕ) (read : History × List ℕ) : Type 0 where
  pub legal : IsLegal day read.0
  pub text_is : rest ≡ journal_text read.0 ++ read.1
  pub none : NoneFollows day read.0 read.1
  pub only : (other : History) → IsLegal day other → rest ≡ journal_text other → (other, []) ≡ read
  pub furthest : (other : History) (more : List ℕ) → IsLegal day other → rest ≡ journal_text other ++ more → length other ≤ length read.0

not_both : {X : Type 0} (o : Option X) (x : X) → o ≡ None → o ≡ Some x → ⊥
not_both None x h k = cc
not_both (Some y) x h k = cc

none_follows : (day : Day) → is_sound day ≡ true → (past : History) (bytes : List ℕ) → next_line day past bytes ≡ None → NoneFollows day past bytes
none_follows day sound past bytes last l rest legal e = not_both (next_line day past bytes) (l, rest) last (ap (next_line day past) e ∙ next_stands day sound past l rest legal)

whole : (day : Day) → is_sound day ≡ true → (other : History) → IsLegal day other → longest day (journal_text other) ≡ (other, [])
unfolding followed
whole day sound other legal = ap (longest day) (sym (append-nil (journal_text other))) ∙ along day sound _ other [] legal (omega arith)

no_further : (day : Day) → is_sound day ≡ true → (other : History) (more : List ℕ) → IsLegal day other → length other ≤ length (longest day (journal_text other ++ more)).0
no_further day sound other more legal =
    subst (λ (read : History × List ℕ). length other ≤ length read.0) (sym (along day sound (length (journal_text other ++ more)) other more legal (omega arith))) (grows (length more) day other more)

begins : (day : Day) (rest : List ℕ) → is_sound day ≡ true → Begins day rest (longest day rest)
unfolding journal_text
begins day rest sound =
    let is = longest_is day rest in
    record {
      legal = is.legal;
      text_is = is.text;
      none = none_follows day sound _ _ is.last;
      only = λ other legal e. sym (ap (longest day) e ∙ whole day sound other legal);
      furthest = λ other more legal e. subst (λ (text : List ℕ). length other ≤ length (longest day text).0) (sym e) (no_further day sound other more legal);
    }

empty_is : (xs : List ℕ) → is_empty xs ≡ true → xs ≡ []
empty_is [] h = refl
empty_is (x ∷ xs) h = cc

empty_not : (xs : List ℕ) → is_empty xs ≡ false → xs ≡ [] → ⊥
empty_not [] h e = cc
empty_not (x ∷ xs) h e = cc

-- of a journal that was read as this one
pub legal_read : (day : Day) (rest : List ℕ) (J : History) → J ≡ (longest day rest).0 → IsLegal day J
legal_read day rest J e = subst (IsLegal day) (sym e) (longest_is day rest).legal

module _ (told : Told) where
  -- ---- what is said of what was read

  pub says_read : {S : Type 0} (state : S → SinkState) (old new : S) (day : Day) (rest : List ℕ) (J : History) (behind : List ℕ) (status : ℕ) → J ≡ (longest day rest).0 → behind ≡ (longest day rest).1 →
      SaysIfRoom state old new (answer_of_followed told day (J, behind)) status → SaysIfRoom state old new (answer_of_rest told day rest) status
  says_read state old new day rest J behind status a b said = subst (λ (read : History × List ℕ). SaysIfRoom state old new (answer_of_followed told day read) status) (λ i. (a i, b i)) said

  -- where nothing follows, or something
  pub says_followed : {S : Type 0} (state : S → SinkState) (old new : S) (day : Day) (J : History) (behind : List ℕ) (b : Bool) (status : ℕ) → is_empty behind ≡ b →
      SaysIfRoom state old new (if b then done (told day J) else illegal (suc (length J))) status → SaysIfRoom state old new (answer_of_followed told day (J, behind)) status
  says_followed state old new day J behind b status e said = subst (λ c. SaysIfRoom state old new (if c then done (told day J) else illegal (suc (length J))) status) (sym e) said

  module _ (IsDone : List ℕ → List ℕ → Type 0) where
    -- ---- what each answer says, where what is told is done

    rest_answer : ((bytes text : List ℕ) → IsTold told bytes text → IsDone bytes text) → (bytes : List ℕ) (day : Day) (rest : List ℕ) → IsGiven longest_input bytes day rest → (read : History × List ℕ) → Begins day rest read → IsAnswer IsDone bytes (answer_of_followed told day read)
    rest_answer does bytes day rest given read is = go (is_empty read.1) refl
      where
        go : (b : Bool) → is_empty read.1 ≡ b → IsAnswer IsDone bytes (if b then done (told day read.0) else illegal (suc (length read.0)))
        go true e = inl (
          refl,
          does bytes (told day read.0) (record {
            day = day;
            rest = rest;
            given = given;
            journal = read.0;
            legal = is.legal;
            laws = all_laws day read.0 given.sound is.legal;
            text_is = is.text_is ∙ ap (λ (xs : List ℕ). journal_text read.0 ++ xs) (empty_is read.1 e) ∙ append-nil (journal_text read.0);
            one = λ another legal same. ap (λ (x : History × List ℕ). x.0) (is.only another legal same);
            is = refl;
          }),
        )
        go false e = inr (inr (inl (
          refl,
          record {
            day = day;
            rest = rest;
            given = given;
            before = read.0;
            behind = read.1;
            legal = is.legal;
            text_is = is.text_is;
            more = empty_not read.1 e;
            none = is.none;
            furthest = is.furthest;
            no_journal = λ another legal same. empty_not read.1 e (sym (ap (λ (x : History × List ℕ). x.1) (is.only another legal same)));
            is = refl;
          },
        )))

    one_of : {S : Type 0} (state : S → SinkState) (old new : S) (bytes : List ℕ) (answer : Answer) (status : ℕ) → IsDefined told IsDone bytes answer → SaysIfRoom state old new answer status → SaysOneIfRoom state old new (IsDefined told IsDone bytes) status
    one_of state old new bytes answer status is (inl none) = inl none
    one_of state old new bytes answer status is (inr said) = inr (answer, is, said)

    -- a day was read
    pub says_day : {S : Type 0} (state : S → SinkState) (old new : S) → ((bytes text : List ℕ) → IsTold told bytes text → IsDone bytes text) → (bytes : List ℕ) (day : Day) (rest : List ℕ) (status : ℕ) → IsGiven longest_input bytes day rest →
        SaysIfRoom state old new (answer_of_rest told day rest) status → SaysOneIfRoom state old new (IsDefined told IsDone bytes) status
    says_day state old new does bytes day rest status given said =
        one_of state old new bytes (answer_of_rest told day rest) status (sym (answer_over longest_input _ bytes day rest given), rest_answer does bytes day rest given (longest day rest) (begins day rest given.sound)) said

    -- or refused
    pub says_refused : {S : Type 0} (state : S → SinkState) (old new : S) (bytes : List ℕ) (number : ℕ) (code : DayCode) (status : ℕ) → length bytes ≤ longest_input → day_of_bytes bytes ≡ Err (number, code) →
        Says (state old) (state new) (refused number code) status → SaysOneIfRoom state old new (IsDefined told IsDone bytes) status
    says_refused state old new bytes number code status short e said =
        inr (refused number code, (sym (answer_refused longest_input _ bytes number code short e), inr (inl (refl, record { short = short; number = number; code = code; refused = e; is = refl }))), said)
