-- The lines that stand stored in some bytes, one after the other.
use Rattle.std.proofs.Common.{◌≡◌, ◌≢◌, ℕ, zero, suc, ◌+◌, ◌<◌, ◌≤◌, ◌^◌, Bool, true, false, not, List, [], ◌∷◌, ◌++◌, length, take, drop, Some, None, refl, sym, ap, subst, ◌∙◌, arith, append_assoc, append-nil}
use Rattle.std.specs.Prelude.{bytes_eq, if◌then◌else◌, option_and_then, nat_eq}
use Rattle.std.specs.Option.{option_map_or}
use Rattle.std.specs.Int.{w32, to_be_bytes, from_be_bytes}
use Rattle.std.proofs.lemmas.List.{length-append, take-append-drop, take_at, drop_at}
use Rattle.std.proofs.lemmas.Nat.{from_be_bytes-to_be_bytes_4}
use Rattle.std.proofs.lemmas.Slice.Eq.{bytes_eq-Decides}
use Rattle.std.proofs.lemmas.Bool.{ne_eqb}
use Rattle.batch_records.specs.DayRecord.{Day}
use Rattle.batch_records.specs.Sound.{is_sound}
use Rattle.commit_journal.specs.Line.{Line, History}
use Rattle.commit_journal.specs.Text.{line_text}
use Rattle.commit_journal.specs.FieldGrammar.{Read}
use Rattle.commit_journal.proofs.FieldLemmas.{none_of, some_is, then_only, then_some, when_some}
use Rattle.machine.specs.Making.Lines.{line_of}
use Rattle.machine.specs.Legal.{IsLegal, want_of}
use Rattle.journal_replay.specs.Verdicts.{behind, next_line}
use Rattle.journal_replay.proofs.Following.{next_is, next_stands}
use Rattle.durable_day.specs.Bytes.{gated, entry, stored, text_behind, next_stored, lengthened, front, is_closed}
use Rattle.durable_day.specs.StoreLaws.{FrontsAreFound, ClosedFrontsStand, OneJournalEach}
use Rattle.durable_day.proofs.TextSizes.{line_in_room}

-- ---- a text after a gate

abbrev four_bytes : List ℕ → List ℕ
four_bytes text = to_be_bytes w32 (length text)

behind_gate : (text rest : List ℕ) → drop 1 (gated text ++ rest) ≡ four_bytes text ++ (text ++ rest)
behind_gate text rest = append_assoc (four_bytes text) text rest

pub length_told : (text rest : List ℕ) → take 4 (drop 1 (gated text ++ rest)) ≡ four_bytes text
length_told text rest = ap (take 4) (behind_gate text rest) ∙ take_at (four_bytes text) (text ++ rest) 4 refl

pub behind_length : (text rest : List ℕ) → drop 5 (gated text ++ rest) ≡ text ++ rest
behind_length text rest = ap (drop 4) (behind_gate text rest) ∙ drop_at (four_bytes text) (text ++ rest) 4 refl

-- the bytes tell the text
pub text_told : (text rest : List ℕ) → length text < 2 ^ 32 → text_behind (gated text ++ rest) ≡ text
text_told text rest small =
    let count : from_be_bytes w32 (take 4 (drop 1 (gated text ++ rest))) ≡ length text = ap (from_be_bytes w32) (length_told text rest) ∙ from_be_bytes-to_be_bytes_4 (length text) small in
    ap (λ (n : ℕ). take n (drop 5 (gated text ++ rest))) count
    ∙ ap (take (length text)) (behind_length text rest)
    ∙ take_at text rest (length text) refl

pub length-gated : (text : List ℕ) → length (gated text) ≡ 5 + length text
length-gated text = let four : length (four_bytes text) ≡ 4 = refl in omega (arith, four, length-append (four_bytes text) text)

-- ---- what stands in front

parted : (front bytes rest : List ℕ) → behind front bytes ≡ Some rest → bytes ≡ front ++ rest
parted front bytes rest h =
    let w = when_some _ _ _ h in
    let same : take (length front) bytes ≡ front = (bytes_eq-Decides (take (length front) bytes) front).0 w.0 in
    sym (take-append-drop (length front) bytes) ∙ ap (λ (xs : List ℕ). xs ++ drop (length front) bytes) same ∙ ap (λ (xs : List ℕ). front ++ xs) w.1

parts : (front rest : List ℕ) → behind front (front ++ rest) ≡ Some rest
parts front rest =
    let same : bytes_eq (take (length front) (front ++ rest)) front ≡ true = (bytes_eq-Decides (take (length front) (front ++ rest)) front).1 (take_at front rest (length front) refl) in
    ap (λ b. if b then Some (drop (length front) (front ++ rest)) else None) same ∙ ap (λ (xs : List ℕ). Some xs) (drop_at front rest (length front) refl)

-- ---- the next line

-- the line is the machine's, and it stands stored in front
pub record IsNextStored (day : Day) (J : History) (bytes : List ℕ) (l : Line) (rest : List ℕ) : Type 0 where
  pub made : line_of day J (want_of l) ≡ Some l
  pub bytes_are : bytes ≡ entry (suc (length J)) l ++ rest

abbrev storing : History → List ℕ → Line × List ℕ → Read Line
storing J bytes read = option_and_then (λ (rest : List ℕ). Some (read.0, rest)) (behind (entry (suc (length J)) read.0) bytes)

pub next_stored_is : (day : Day) (J : History) (bytes : List ℕ) (y : Line × List ℕ) → next_stored day J bytes ≡ Some y → IsNextStored day J bytes y.0 y.1
unfolding next_stored
next_stored_is day J bytes y h =
    let read = then_only (storing J bytes) (next_line day J (text_behind bytes)) y h in
    let last : List ℕ → Read Line = λ rest. Some (read.0.0, rest) in
    let rest = then_only last (behind (entry (suc (length J)) read.0.0) bytes) y read.2 in
    let here : IsNextStored day J bytes read.0.0 rest.0 = record {
      made = (next_is day J (text_behind bytes) read.0 read.1).made;
      bytes_are = parted (entry (suc (length J)) read.0.0) bytes rest.0 rest.1;
    } in
    subst (λ (y : Line × List ℕ). IsNextStored day J bytes y.0 y.1) (some_is _ y rest.2) here

pub next_stored_stands : (day : Day) → is_sound day ≡ true → (J : History) (l : Line) (rest : List ℕ) → IsLegal day (l ∷ J) → next_stored day J (entry (suc (length J)) l ++ rest) ≡ Some (l, rest)
unfolding next_stored
next_stored_stands day sound J l rest legal =
    let text : List ℕ = line_text (suc (length J)) l in
    let small : length text < 2 ^ 32 = omega (arith, line_in_room day sound J l legal) in
    let read : next_line day J (text_behind (gated text ++ rest)) ≡ Some (l, []) = ap (next_line day J) (text_told text rest small ∙ sym (append-nil text)) ∙ next_stands day sound J l [] legal in
    then_some _ _ _ _ read (then_some _ _ _ _ (parts (entry (suc (length J)) l) rest) refl)

-- each line takes a byte at least
shorter : (day : Day) (J : History) (bytes : List ℕ) (y : Line × List ℕ) → next_stored day J bytes ≡ Some y → length y.1 < length bytes
shorter day J bytes y h =
    let is = next_stored_is day J bytes y h in
    let mine : List ℕ = entry (suc (length J)) y.0 in
    omega (arith, ap length is.bytes_are, length-append mine y.1, length-gated (line_text (suc (length J)) y.0))

-- ---- all lines that stand there

stops : (n : ℕ) (day : Day) (J : History) (bytes : List ℕ) → next_stored day J bytes ≡ None → lengthened n day J bytes ≡ (J, bytes)
unfolding lengthened
stops zero day J bytes h = refl
stops (suc n) day J bytes h = ap (λ o. option_map_or (λ (read : Line × List ℕ). lengthened n day (read.0 ∷ J) read.1) o (J, bytes)) h

more : (n : ℕ) (day : Day) (J : History) (bytes : List ℕ) (y : Line × List ℕ) → next_stored day J bytes ≡ Some y → lengthened (suc n) day J bytes ≡ lengthened n day (y.0 ∷ J) y.1
unfolding lengthened
more n day J bytes y h = ap (λ o. option_map_or (λ (read : Line × List ℕ). lengthened n day (read.0 ∷ J) read.1) o (J, bytes)) h

none_in_nothing : (day : Day) (J : History) (bytes : List ℕ) → length bytes ≤ 0 → next_stored day J bytes ≡ None
none_in_nothing day J bytes few = none_of (next_stored day J bytes) (λ y h. let less = shorter day J bytes y h in absurd (omega (arith, less, few)))

-- as many lines as there are bytes are enough
enough : (n m : ℕ) (day : Day) (J : History) (bytes : List ℕ) → length bytes ≤ n → length bytes ≤ m → lengthened n day J bytes ≡ lengthened m day J bytes
enough zero m day J bytes a b = let none = none_in_nothing day J bytes a in stops zero day J bytes none ∙ sym (stops m day J bytes none)
enough (suc n) zero day J bytes a b = let none = none_in_nothing day J bytes b in stops (suc n) day J bytes none ∙ sym (stops zero day J bytes none)
enough (suc n) (suc m) day J bytes a b = here (next_stored day J bytes) refl (λ y h. let less = shorter day J bytes y h in enough n m day (y.0 ∷ J) y.1 (omega (arith, less, a)) (omega (arith, less, b)))
  where
    here : (o : Read Line) → next_stored day J bytes ≡ o → ((y : Line × List ℕ) → next_stored day J bytes ≡ Some y → lengthened n day (y.0 ∷ J) y.1 ≡ lengthened m day (y.0 ∷ J) y.1) → lengthened (suc n) day J bytes ≡ lengthened (suc m) day J bytes
    here None h later = stops (suc n) day J bytes h ∙ sym (stops (suc m) day J bytes h)
    here (Some y) h later = more n day J bytes y h ∙ later y h ∙ sym (more m day J bytes y h)

pub goes_further : (day : Day) (J : History) (bytes : List ℕ) (y : Line × List ℕ) → next_stored day J bytes ≡ Some y → lengthened (length bytes) day J bytes ≡ lengthened (length y.1) day (y.0 ∷ J) y.1
goes_further day J bytes y h =
    let less = shorter day J bytes y h in
    enough (length bytes) (suc (length bytes)) day J bytes (omega arith) (omega arith)
    ∙ more (length bytes) day J bytes y h
    ∙ enough (length bytes) (length y.1) day (y.0 ∷ J) y.1 (omega (arith, less)) (omega arith)

pub stops_here : (day : Day) (J : History) (bytes : List ℕ) → next_stored day J bytes ≡ None → lengthened (length bytes) day J bytes ≡ (J, bytes)
stops_here day J bytes h = stops (length bytes) day J bytes h

-- ---- the front

not_both : {X : Type 0} (o : Read X) (x : X × List ℕ) → o ≡ None → o ≡ Some x → ⊥
not_both None x h k = absurd (cc)
not_both (Some y) x h k = absurd (cc)

record IsLengthened (day : Day) (J : History) (bytes : List ℕ) (found : History × List ℕ) : Type 0 where
  legal : IsLegal day found.0
  bytes_are : stored J ++ bytes ≡ stored found.0 ++ found.1
  last : next_stored day found.0 found.1 ≡ None

is_lengthened : (n : ℕ) (day : Day) (J : History) (bytes : List ℕ) → IsLegal day J → length bytes ≤ n → IsLengthened day J bytes (lengthened n day J bytes)
unfolding lengthened stored
is_lengthened zero day J bytes legal few = record { legal = legal; bytes_are = refl; last = none_in_nothing day J bytes few }
is_lengthened (suc n) day J bytes legal few = here (next_stored day J bytes) refl (λ y h.
    let is = next_stored_is day J bytes y h in
    let less = shorter day J bytes y h in
    is_lengthened n day (y.0 ∷ J) y.1 (legal, is.made) (omega (arith, less, few)))
  where
    put : (y : Line × List ℕ) (found : History × List ℕ) → next_stored day J bytes ≡ Some y → IsLengthened day (y.0 ∷ J) y.1 found → IsLengthened day J bytes found
    put y found h later =
        let is = next_stored_is day J bytes y h in
        record {
          legal = later.legal;
          bytes_are = ap (λ (xs : List ℕ). stored J ++ xs) is.bytes_are ∙ sym (append_assoc (stored J) (entry (suc (length J)) y.0) y.1) ∙ later.bytes_are;
          last = later.last;
        }

    here : (o : Read Line) → next_stored day J bytes ≡ o → ((y : Line × List ℕ) → next_stored day J bytes ≡ Some y → IsLengthened day (y.0 ∷ J) y.1 (lengthened n day (y.0 ∷ J) y.1)) →
        IsLengthened day J bytes (option_map_or (λ (read : Line × List ℕ). lengthened n day (read.0 ∷ J) read.1) o (J, bytes))
    here None h later = record { legal = legal; bytes_are = refl; last = h }
    here (Some y) h later = put y (lengthened n day (y.0 ∷ J) y.1) h (later y h)

-- the lines of a legal journal that stand in front are found
pub along : (day : Day) → is_sound day ≡ true → (n : ℕ) (J : History) (rest : List ℕ) → IsLegal day J → length (stored J ++ rest) ≤ n → lengthened n day [] (stored J ++ rest) ≡ lengthened (length rest) day J rest
unfolding stored
along day sound n [] rest legal few = enough n (length rest) day [] rest few (omega arith)
along day sound n (l ∷ J) rest legal few =
    let e : List ℕ = entry (suc (length J)) l in
    let assoc : (stored J ++ e) ++ rest ≡ stored J ++ (e ++ rest) = append_assoc (stored J) e rest in
    let few_still : length (stored J ++ (e ++ rest)) ≤ n = subst (λ (xs : List ℕ). length xs ≤ n) assoc few in
    ap (lengthened n day []) assoc
    ∙ along day sound n J (e ++ rest) legal.0 few_still
    ∙ goes_further day J (e ++ rest) (l, rest) (next_stored_stands day sound J l rest legal)

pub none_stored : (day : Day) → is_sound day ≡ true → (J : History) (bytes : List ℕ) → next_stored day J bytes ≡ None → (l : Line) (rest : List ℕ) → IsLegal day (l ∷ J) → bytes ≡ entry (suc (length J)) l ++ rest → ⊥
none_stored day sound J bytes none l rest legal is =
    not_both (next_stored day J bytes) (l, rest) none (ap (next_stored day J) is ∙ next_stored_stands day sound J l rest legal)

pub fronts_are_found : FrontsAreFound
unfolding stored
fronts_are_found day bytes sound =
    let found = is_lengthened (length bytes) day [] bytes tt (omega arith) in
    record { legal = found.legal; bytes_are = found.bytes_are; last = none_stored day sound (front day bytes).0 (front day bytes).1 found.last }

-- ---- gates

pub gate_is : (bytes : List ℕ) → is_closed bytes ≡ true → (gate : ℕ) × (rest : List ℕ) × (bytes ≡ gate ∷ rest) × (gate ≢ 1)
gate_is [] h = absurd (cc)
gate_is (gate ∷ rest) h = (gate, rest, refl, λ is. clash (nat_eq gate 1) (ap (λ (n : ℕ). nat_eq n 1) is) h)
  where
    clash : (b : Bool) → b ≡ true → not b ≡ true → ⊥
    clash true is h = absurd (cc)
    clash false is h = absurd (cc)

pub closed_stops : (day : Day) (J : History) (gate : ℕ) (rest : List ℕ) → gate ≢ 1 → next_stored day J (gate ∷ rest) ≡ None
closed_stops day J gate rest shut = none_of (next_stored day J (gate ∷ rest)) (λ y h.
    let is = next_stored_is day J (gate ∷ rest) y h in
    shut (ap first is.bytes_are))
  where
    first : List ℕ → ℕ
    first [] = 0
    first (x ∷ xs) = x

pub closed_fronts_stand : ClosedFrontsStand
closed_fronts_stand day bytes sound shut =
    let gate = gate_is (front day bytes).1 shut in
    record { gate = gate.0; rest = gate.1; bytes_are = (fronts_are_found day bytes sound).bytes_are ∙ ap (λ (xs : List ℕ). stored (front day bytes).0 ++ xs) gate.2; closed = gate.3 }

pub one_journal_each : OneJournalEach
one_journal_each day bytes J sound legal stands =
    let behind_it : List ℕ = stands.gate ∷ stands.rest in
    let found : front day bytes ≡ (J, behind_it) =
    ap (λ (xs : List ℕ). front day xs) stands.bytes_are
    ∙ along day sound (length (stored J ++ behind_it)) J behind_it legal (omega arith)
    ∙ stops_here day J behind_it (closed_stops day J stands.gate stands.rest stands.closed) in
    let shut : is_closed behind_it ≡ true = ap not (ne_eqb stands.gate 1 stands.closed) in
    (sym (ap (λ (f : History × List ℕ). f.0) found), ap (λ (f : History × List ℕ). is_closed f.1) found ∙ shut)
