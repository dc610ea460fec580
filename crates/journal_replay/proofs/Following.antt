-- What follows in the bytes, line by line.
use Rattle.std.proofs.Common.{◌≡◌, ℕ, zero, suc, ◌+◌, ◌^◌, ◌<◌, ◌≤◌, true, List, [], ◌∷◌, ◌++◌, length, take, drop, Some, None, refl, sym, ap, subst, ◌∙◌, arith, append_assoc}
use Rattle.std.specs.Prelude.{bytes_eq, if◌then◌else◌, option_and_then}
use Rattle.std.specs.Option.{option_map_or}
use Rattle.std.proofs.Math.Seq.{take-append_seam, drop-append_seam}
use Rattle.std.proofs.lemmas.List.{length-append, take-append-drop}
use Rattle.std.proofs.lemmas.Slice.Eq.{bytes_eq-Decides}
use Rattle.batch_records.specs.DayRecord.{Day}
use Rattle.batch_records.specs.Sound.{is_sound}
use Rattle.batch_records.specs.Versions.{most_messages}
use Rattle.batch_records.proofs.VersionFacts.{messages_at_most}
use Rattle.commit_journal.specs.Line.{Line, History}
use Rattle.commit_journal.specs.Text.{line_text, journal_text}
use Rattle.commit_journal.specs.FieldGrammar.{Read}
use Rattle.commit_journal.specs.LineGrammar.{read_line}
use Rattle.commit_journal.proofs.FieldLemmas.{none_of, some_is, then_only, then_some, when_some}
use Rattle.commit_journal.proofs.LineLemmas.{lines_are_read, only_lines_are_read}
use Rattle.machine.specs.Orders.Bounds.{line_limit}
use Rattle.machine.specs.Making.Lines.{line_of}
use Rattle.machine.specs.Legal.{IsLegal, want_of}
use Rattle.settlement_laws.proofs.DayEnd.LineBound.{length-bound}
use Rattle.settlement_laws.proofs.Base.SoundParts.{few_lines}
use Rattle.settlement_laws.proofs.Base.Induction.{want_of-line}
use Rattle.journal_replay.specs.Verdicts.{behind, next_line, followed}
use Rattle.journal_replay.proofs.LinesFit.{line_fits}

-- ---- lengths

pub few_so_far : (day : Day) → is_sound day ≡ true → (J : History) → IsLegal day J → length J < line_limit
few_so_far day sound J legal =
    let bound = length-bound day sound J legal in
    let few = few_lines day sound in
    omega (arith, bound, few)

-- the highest number of a message is a word
pub most_small : (day : Day) → most_messages day.version < 2 ^ 32
most_small day = let few = messages_at_most day.version in omega (arith, few)

-- ---- texts

behind_is : (text bytes rest : List ℕ) → behind text bytes ≡ Some rest → bytes ≡ text ++ rest
behind_is text bytes rest h =
    let w = when_some _ _ _ h in
    let front : take (length text) bytes ≡ text = (bytes_eq-Decides (take (length text) bytes) text).0 w.0 in
    sym (take-append-drop (length text) bytes) ∙ ap (λ (xs : List ℕ). xs ++ drop (length text) bytes) front ∙ ap (λ (xs : List ℕ). text ++ xs) w.1

behind_stands : (text rest : List ℕ) → behind text (text ++ rest) ≡ Some rest
behind_stands text rest =
    let same : bytes_eq (take (length text) (text ++ rest)) text ≡ true = (bytes_eq-Decides (take (length text) (text ++ rest)) text).1 (take-append_seam text rest) in
    ap (λ b. if b then Some (drop (length text) (text ++ rest)) else None) same ∙ ap (λ (xs : List ℕ). Some xs) (drop-append_seam text rest)

-- a line's text isn't empty
pub line_long : (place : ℕ) (l : Line) → 1 ≤ length (line_text place l)
unfolding line_text
line_long place l = omega arith

-- ---- the next line

-- the line is the machine's, and its text stands in front
pub record IsNext (day : Day) (J : History) (bytes : List ℕ) (l : Line) (rest : List ℕ) : Type 0 where
  pub made : line_of day J (want_of l) ≡ Some l
  pub text : bytes ≡ line_text (suc (length J)) l ++ rest

-- the steps of what is next
abbrev standing : History → List ℕ → Line → Read Line
standing J bytes line = option_and_then (λ (rest : List ℕ). Some (line, rest)) (behind (line_text (suc (length J)) line) bytes)

abbrev making : Day → History → List ℕ → Line × List ℕ → Read Line
making day J bytes read = option_and_then (standing J bytes) (line_of day J (want_of read.0))

pub next_is : (day : Day) (J : History) (bytes : List ℕ) (y : Line × List ℕ) → next_line day J bytes ≡ Some y → IsNext day J bytes y.0 y.1
unfolding next_line
next_is day J bytes y h =
    let read = then_only (making day J bytes) (read_line (most_messages day.version) (suc (length J)) bytes) y h in
    let line = then_only (standing J bytes) (line_of day J (want_of read.0.0)) y read.2 in
    let last : List ℕ → Read Line = λ rest. Some (line.0, rest) in
    let rest = then_only last (behind (line_text (suc (length J)) line.0) bytes) y line.2 in
    let here : IsNext day J bytes line.0 rest.0 = record {
      made = ap (line_of day J) (want_of-line day J (want_of read.0.0) line.0 line.1) ∙ line.1;
      text = behind_is (line_text (suc (length J)) line.0) bytes rest.0 rest.1;
    } in
    subst (λ (y : Line × List ℕ). IsNext day J bytes y.0 y.1) (some_is _ y rest.2) here

-- the machine's line is next where its text stands in front
pub next_stands : (day : Day) → is_sound day ≡ true → (J : History) (l : Line) (rest : List ℕ) → IsLegal day (l ∷ J) → next_line day J (line_text (suc (length J)) l ++ rest) ≡ Some (l, rest)
unfolding next_line
next_stands day sound J l rest legal =
    then_some _ _ _ _ (lines_are_read (most_messages day.version) (suc (length J)) l rest (most_small day) (line_fits day sound J l legal))
    (then_some _ _ _ _ legal.1 (then_some _ _ _ _ (behind_stands (line_text (suc (length J)) l) rest) refl))

-- no line is next where what is read is no line, or not the machine's
pub next_unread : (day : Day) (J : History) (bytes : List ℕ) → read_line (most_messages day.version) (suc (length J)) bytes ≡ None → next_line day J bytes ≡ None
unfolding next_line
next_unread day J bytes h = ap (option_and_then (making day J bytes)) h

-- it is next where it is the machine's
pub next_read : (day : Day) → is_sound day ≡ true → (J : History) (bytes : List ℕ) (l : Line) (rest : List ℕ) → IsLegal day (l ∷ J) → suc (length J) < 2 ^ 32 → read_line (most_messages day.version) (suc (length J)) bytes ≡ Some (l, rest) → next_line day J bytes ≡ Some (l, rest)
next_read day sound J bytes l rest legal small read =
    ap (next_line day J) (only_lines_are_read (most_messages day.version) (suc (length J)) bytes rest l small read).1 ∙ next_stands day sound J l rest legal

pub next_differs : (day : Day) → is_sound day ≡ true → (J : History) (bytes : List ℕ) (l : Line) (rest : List ℕ) → IsLegal day J → read_line (most_messages day.version) (suc (length J)) bytes ≡ Some (l, rest) →
    (line_of day J (want_of l) ≡ Some l → ⊥) → next_line day J bytes ≡ None
next_differs day sound J bytes l rest legal read other = none_of (next_line day J bytes) (λ y h.
    let is = next_is day J bytes y h in
    let again : read_line (most_messages day.version) (suc (length J)) bytes ≡ Some (y.0, y.1) = ap (read_line (most_messages day.version) (suc (length J))) is.text ∙ lines_are_read (most_messages day.version) (suc (length J)) y.0 y.1 (most_small day) (line_fits day sound J y.0 (legal, is.made)) in
    let same : y.0 ≡ l = ap (λ (z : Line × List ℕ). z.0) (some_is (y.0, y.1) (l, rest) (sym again ∙ read)) in
    other (subst (λ (x : Line). line_of day J (want_of x) ≡ Some x) same is.made))

-- each line takes a byte at least
pub shorter : (day : Day) (J : History) (bytes : List ℕ) (y : Line × List ℕ) → next_line day J bytes ≡ Some y → length y.1 < length bytes
shorter day J bytes y h =
    let is = next_is day J bytes y h in
    let long = line_long (suc (length J)) y.0 in
    let whole : length bytes ≡ length (line_text (suc (length J)) y.0) + length y.1 = ap length is.text ∙ length-append (line_text (suc (length J)) y.0) y.1 in
    omega (arith, long, whole)

-- ---- all lines that follow

followed_stops : (n : ℕ) (day : Day) (J : History) (bytes : List ℕ) → next_line day J bytes ≡ None → followed n day J bytes ≡ (J, bytes)
unfolding followed
followed_stops zero day J bytes h = refl
followed_stops (suc n) day J bytes h = ap (λ o. option_map_or (λ (read : Line × List ℕ). followed n day (read.0 ∷ J) read.1) o (J, bytes)) h

followed_more : (n : ℕ) (day : Day) (J : History) (bytes : List ℕ) (y : Line × List ℕ) → next_line day J bytes ≡ Some y → followed (suc n) day J bytes ≡ followed n day (y.0 ∷ J) y.1
unfolding followed
followed_more n day J bytes y h = ap (λ o. option_map_or (λ (read : Line × List ℕ). followed n day (read.0 ∷ J) read.1) o (J, bytes)) h

none_in_nothing : (day : Day) (J : History) (bytes : List ℕ) → length bytes ≤ 0 → next_line day J bytes ≡ None
none_in_nothing day J bytes few = none_of (next_line day J bytes) (λ y h. let less = shorter day J bytes y h in absurd (omega (arith, less, few)))

-- as many lines as there are bytes are enough
enough : (n m : ℕ) (day : Day) (J : History) (bytes : List ℕ) → length bytes ≤ n → length bytes ≤ m → followed n day J bytes ≡ followed m day J bytes
enough zero m day J bytes a b = let none = none_in_nothing day J bytes a in followed_stops zero day J bytes none ∙ sym (followed_stops m day J bytes none)
enough (suc n) zero day J bytes a b = let none = none_in_nothing day J bytes b in followed_stops (suc n) day J bytes none ∙ sym (followed_stops zero day J bytes none)
enough (suc n) (suc m) day J bytes a b = here (next_line day J bytes) refl (λ y h. let less = shorter day J bytes y h in enough n m day (y.0 ∷ J) y.1 (omega (arith, less, a)) (omega (arith, less, b)))
  where
    here : (o : Read Line) → next_line day J bytes ≡ o → ((y : Line × List ℕ) → next_line day J bytes ≡ Some y → followed n day (y.0 ∷ J) y.1 ≡ followed m day (y.0 ∷ J) y.1) → followed (suc n) day J bytes ≡ followed (suc m) day J bytes
    here None h more = followed_stops (suc n) day J bytes h ∙ sym (followed_stops (suc m) day J bytes h)
    here (Some y) h more = followed_more n day J bytes y h ∙ more y h ∙ sym (followed_more m day J bytes y h)

pub follow_next : (day : Day) (J : History) (bytes : List ℕ) (y : Line × List ℕ) → next_line day J bytes ≡ Some y → followed (length bytes) day J bytes ≡ followed (length y.1) day (y.0 ∷ J) y.1
follow_next day J bytes y h =
    let less = shorter day J bytes y h in
    enough (length bytes) (suc (length bytes)) day J bytes (omega arith) (omega arith)
    ∙ followed_more (length bytes) day J bytes y h
    ∙ enough (length bytes) (length y.1) day (y.0 ∷ J) y.1 (omega (arith, less)) (omega arith)

pub follow_stops : (day : Day) (J : History) (bytes : List ℕ) → next_line day J bytes ≡ None → followed (length bytes) day J bytes ≡ (J, bytes)
follow_stops day J bytes h = followed_stops (length bytes) day J bytes h

-- what the lines are that were followed
pub record IsFollowed (day : Day) (J : History) (bytes : List ℕ) (read : History × List ℕ) : Type 0 where
  pub legal : IsLegal day read.0
  pub text : journal_text J ++ bytes ≡ journal_text read.0 ++ read.1
  pub last : next_line day read.0 read.1 ≡ None

is_followed : (n : ℕ) (day : Day) (J : History) (bytes : List ℕ) → IsLegal day J → length bytes ≤ n → IsFollowed day J bytes (followed n day J bytes)
unfolding followed journal_text
is_followed zero day J bytes legal few = record { legal = legal; text = refl; last = none_in_nothing day J bytes few }
is_followed (suc n) day J bytes legal few = here (next_line day J bytes) refl (λ y h.
    let is = next_is day J bytes y h in
    let less = shorter day J bytes y h in
    is_followed n day (y.0 ∷ J) y.1 (legal, is.made) (omega (arith, less, few)))
  where
    more : (y : Line × List ℕ) (read : History × List ℕ) → next_line day J bytes ≡ Some y → IsFollowed day (y.0 ∷ J) y.1 read → IsFollowed day J bytes read
    more y read h later =
        let is = next_is day J bytes y h in
        record {
          legal = later.legal;
          text = ap (λ (xs : List ℕ). journal_text J ++ xs) is.text ∙ sym (append_assoc (journal_text J) (line_text (suc (length J)) y.0) y.1) ∙ later.text;
          last = later.last;
        }

    here : (o : Read Line) → next_line day J bytes ≡ o → ((y : Line × List ℕ) → next_line day J bytes ≡ Some y → IsFollowed day (y.0 ∷ J) y.1 (followed n day (y.0 ∷ J) y.1)) →
        IsFollowed day J bytes (option_map_or (λ (read : Line × List ℕ). followed n day (read.0 ∷ J) read.1) o (J, bytes))
    here None h later = record { legal = legal; text = refl; last = h }
    here (Some y) h later = more y (followed n day (y.0 ∷ J) y.1) h (later y h)

pub longest_is : (day : Day) (text : List ℕ) → IsFollowed day [] text (followed (length text) day [] text)
longest_is day text = is_followed (length text) day [] text tt (omega arith)

-- the lines of a legal journal that stand in front are followed
pub along : (day : Day) → is_sound day ≡ true → (n : ℕ) (J : History) (rest : List ℕ) → IsLegal day J → length (journal_text J ++ rest) ≤ n → followed n day [] (journal_text J ++ rest) ≡ followed (length rest) day J rest
unfolding journal_text
along day sound n [] rest legal few = enough n (length rest) day [] rest few (omega arith)
along day sound n (l ∷ J) rest legal few =
    let t : List ℕ = line_text (suc (length J)) l in
    let assoc : (journal_text J ++ t) ++ rest ≡ journal_text J ++ (t ++ rest) = append_assoc (journal_text J) t rest in
    let few_still : length (journal_text J ++ (t ++ rest)) ≤ n = subst (λ (xs : List ℕ). length xs ≤ n) assoc few in
    ap (followed n day []) assoc
    ∙ along day sound n J (t ++ rest) legal.0 few_still
    ∙ follow_next day J (t ++ rest) (l, rest) (next_stands day sound J l rest legal)
