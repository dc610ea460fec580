-- How many reads there are, and how they go on.
use Rattle.std.proofs.Common.{◌≡◌, ℕ, suc, ◌+◌, ◌*◌, ◌-◌, ◌<◌, ◌≤◌, ◌^◌, Bool, true, false, not, List, [], ◌∷◌, ◌++◌, length, take, drop, Some, None, refl, sym, ap, subst, ◌∙◌, arith}
use Rattle.std.specs.Prelude.{◌||◌, if◌then◌else◌, nat_eq, nat_lt}
use Rattle.std.specs.Int.{w32, to_be_bytes, from_be_bytes}
use Rattle.std.proofs.lemmas.Bool.{lt-ltb, le-ltb}
use Rattle.std.proofs.lemmas.List.{length-append}
use Rattle.std.proofs.lemmas.Nat.{from_be_bytes-to_be_bytes_4}
use Rattle.batch_records.specs.DayRecord.{Day}
use Rattle.batch_records.specs.Sound.{is_sound}
use Rattle.commit_journal.specs.Line.{Line, History}
use Rattle.commit_journal.specs.Text.{line_text}
use Rattle.commit_journal.specs.FieldGrammar.{Read}
use Rattle.machine.specs.Legal.{IsLegal}
use Rattle.disk_model.specs.Cut.{IsCutForLess}
use Rattle.disk_model.specs.Lasting.{LastsForLess}
use Rattle.disk_model.proofs.CutFacts.{cut_none, cut_off, cut_on}
use Rattle.disk_model.proofs.RunFacts.{lasts_less, lasts_on, lasts_still, looks_less, looks_nowhere, looks_on}
use Rattle.durable_day.specs.Bytes.{gated, next_stored, is_closed}
use Rattle.durable_day.specs.Found.{IsNext}
use Rattle.durable_day.specs.Pieces.{room_size}
use Rattle.durable_day.specs.Reads.{ReadsOnly, finding_time, reads_at, reads_of_text}
use Rattle.durable_day.specs.declared.reading.Entry.TheVariants as entries
use Rattle.durable_day.proofs.StoreFacts.{goes_further, length_told, next_stored_is}
use Rattle.durable_day.proofs.TextSizes.{line_in_room}
use Rattle.durable_day.proofs.WalkFacts.{IsWalked, longer, walk_ends}

-- ---- how many

abbrev pub told : List ℕ → ℕ
told bytes = from_be_bytes w32 (take 4 bytes)

-- a length stands there
enough_for : (room : ℕ) (bytes : List ℕ) → 4 ≤ length bytes → reads_of_text room bytes ≡ (if nat_lt (length bytes - 4) (told bytes) || nat_lt room (told bytes) then 1 else 2)
enough_for room bytes four = ap (λ (b : Bool). if b then 0 else if nat_lt (length bytes - 4) (told bytes) || nat_lt room (told bytes) then 1 else 2) (le-ltb (length bytes) 4 four)

one_or_two : (b : Bool) → 1 ≤ (if b then 1 else 2)
one_or_two true = omega arith
one_or_two false = omega arith

pub some_reads : (room : ℕ) (bytes : List ℕ) → 4 ≤ length bytes → 1 ≤ reads_of_text room bytes
some_reads room bytes four = let is = one_or_two (nat_lt (length bytes - 4) (told bytes) || nat_lt room (told bytes)) in omega (arith, enough_for room bytes four, is)

pub no_reads : (room : ℕ) (bytes : List ℕ) → length bytes < 4 → reads_of_text room bytes ≡ 0
no_reads room bytes few = ap (λ (b : Bool). if b then 0 else if nat_lt (length bytes - 4) (told bytes) || nat_lt room (told bytes) then 1 else 2) (lt-ltb (length bytes) 4 few)

or_true : (b : Bool) → b || true ≡ true
or_true true = refl
or_true false = refl

-- the text isn't there whole
pub length_alone : (room n : ℕ) (bytes : List ℕ) → 4 ≤ length bytes → told bytes ≡ n → length bytes - 4 < n → reads_of_text room bytes ≡ 1
length_alone room n bytes four is short =
    enough_for room bytes four
    ∙ ap (λ (b : Bool). if b || nat_lt room (told bytes) then 1 else 2) (lt-ltb (length bytes - 4) (told bytes) (omega (arith, short, is)))

-- or there is no room for it
pub length_too_far : (room n : ℕ) (bytes : List ℕ) → 4 ≤ length bytes → told bytes ≡ n → room < n → reads_of_text room bytes ≡ 1
length_too_far room n bytes four is short =
    enough_for room bytes four
    ∙ ap (λ (b : Bool). if nat_lt (length bytes - 4) (told bytes) || b then 1 else 2) (lt-ltb room (told bytes) (omega (arith, short, is)))
    ∙ ap (λ (b : Bool). if b then 1 else 2) (or_true (nat_lt (length bytes - 4) (told bytes)))

-- the text is read too
pub text_too : (room n : ℕ) (bytes : List ℕ) → 4 ≤ length bytes → told bytes ≡ n → n ≤ length bytes - 4 → n ≤ room → reads_of_text room bytes ≡ 2
text_too room n bytes four is inside fits =
    enough_for room bytes four
    ∙ ap (λ (b : Bool). if b || nat_lt room (told bytes) then 1 else 2) (le-ltb (length bytes - 4) (told bytes) (omega (arith, inside, is)))
    ∙ ap (λ (b : Bool). if b then 1 else 2) (le-ltb room (told bytes) (omega (arith, fits, is)))

-- what was read of it
pub told_number : (seen : List ℕ) (at n : ℕ) → n < 2 ^ 32 → to_be_bytes w32 n ≡ take 4 (drop (at + 1) seen) → told (drop (at + 1) seen) ≡ n
told_number seen at n small number = ap (from_be_bytes w32) (sym number) ∙ from_be_bytes-to_be_bytes_4 n small

pub reads_past : (room : ℕ) (bytes : List ℕ) → length bytes ≡ 0 → reads_at room bytes ≡ 0
reads_past room [] none = refl
reads_past room (gate ∷ bytes) none = absurd (omega (arith, none))

pub reads_some : (room : ℕ) (bytes : List ℕ) → 0 < length bytes → 1 ≤ reads_at room bytes
reads_some room [] some = absurd (omega (arith, some))
reads_some room (gate ∷ bytes) some = omega arith

pub reads_gate : (room gate : ℕ) (bytes rest : List ℕ) → bytes ≡ gate ∷ rest → nat_eq gate 1 ≡ false → reads_at room bytes ≡ 1
reads_gate room gate bytes rest is shut = ap (reads_at room) is ∙ ap (λ (b : Bool). 1 + (if b then reads_of_text room rest else 0)) shut

pub reads_open : (room gate : ℕ) (bytes rest : List ℕ) → bytes ≡ gate ∷ rest → nat_eq gate 1 ≡ true → reads_at room bytes ≡ 1 + reads_of_text room rest
reads_open room gate bytes rest is open_gate = ap (reads_at room) is ∙ ap (λ (b : Bool). 1 + (if b then reads_of_text room rest else 0)) open_gate

one_two : (b : Bool) → (if b then 1 else 2) ≤ 2
one_two true = omega arith
one_two false = omega arith

two_at_most : (room : ℕ) (bytes : List ℕ) → reads_of_text room bytes ≤ 2
two_at_most room bytes = here (nat_lt (length bytes) 4)
  where
    here : (b : Bool) → (if b then 0 else if nat_lt (length bytes - 4) (told bytes) || nat_lt room (told bytes) then 1 else 2) ≤ 2
    here true = omega arith
    here false = one_two (nat_lt (length bytes - 4) (told bytes) || nat_lt room (told bytes))

pub three_at_most : (room : ℕ) (bytes : List ℕ) → reads_at room bytes ≤ 3
three_at_most room [] = omega arith
three_at_most room (gate ∷ bytes) = here (nat_eq gate 1)
  where
    here : (b : Bool) → 1 + (if b then reads_of_text room bytes else 0) ≤ 3
    here true = let few = two_at_most room bytes in omega (arith, few)
    here false = omega arith

pub reads_closed : (room : ℕ) (bytes : List ℕ) → is_closed bytes ≡ true → reads_at room bytes ≡ 1
reads_closed room [] shut = absurd (cc shut)
reads_closed room (gate ∷ bytes) shut = here (nat_eq gate 1) refl shut
  where
    here : (b : Bool) → nat_eq gate 1 ≡ b → not (nat_eq gate 1) ≡ true → reads_at room (gate ∷ bytes) ≡ 1
    here true e h = absurd (cc (sym (ap not e) ∙ h))
    here false e h = reads_gate room gate (gate ∷ bytes) bytes refl e

-- of a text after an open gate there are three
pub reads_gated : (text rest : List ℕ) → length text ≤ 2 ^ 21 → reads_at room_size (gated text ++ rest) ≡ 3
reads_gated text rest small =
    let four : length (to_be_bytes w32 (length text)) ≡ 4 = refl in
    let bytes : List ℕ = (to_be_bytes w32 (length text) ++ text) ++ rest in
    let size : length bytes ≡ 4 + length text + length rest = omega (arith, four, length-append (to_be_bytes w32 (length text) ++ text) rest, length-append (to_be_bytes w32 (length text)) text) in
    let number : told bytes ≡ length text = ap (from_be_bytes w32) (length_told text rest) ∙ from_be_bytes-to_be_bytes_4 (length text) (omega (arith, small)) in
    ap (λ (n : ℕ). 1 + n) (text_too room_size (length text) bytes (omega (arith, size)) number (omega (arith, size)) (omega (arith, small)))

-- ---- a walk over the lines

module _ (day : Day) (sound : is_sound day ≡ true) (J : History) (legal : IsLegal day J) where
  -- a line takes three
  pub line_reads : (bytes : List ℕ) (y : Line × List ℕ) → next_stored day J bytes ≡ Some y → reads_at room_size bytes ≡ 3
  line_reads bytes y h =
      let is = next_stored_is day J bytes y h in
      ap (reads_at room_size) is.bytes_are ∙ reads_gated (line_text (suc (length J)) y.0) y.1 (line_in_room day sound J y.0 (legal, is.made))

  pub next_reads : (bytes : List ℕ) (later : History) (count : ℕ) → IsNext day J bytes later (entries.Text count) → reads_at room_size bytes ≡ 3
  next_reads bytes later count (l, h, is, inside) = line_reads bytes (l, drop (5 + count) bytes) h

  -- the place after the last one
  pub last_reads : (seen : List ℕ) (at lines : ℕ) → IsWalked day seen J at lines → next_stored day J (drop at seen) ≡ None → 3 * lines + reads_at room_size (drop at seen) ≡ finding_time day seen
  last_reads seen at lines so_far none =
      let whole = walk_ends day seen J at lines so_far none in
      omega (arith, so_far.lines_are, ap (λ (f : History × List ℕ). length f.0) whole, ap (λ (f : History × List ℕ). reads_at room_size f.1) whole)

  -- and any place
  pub place_reads : (seen : List ℕ) (at lines : ℕ) → IsWalked day seen J at lines → 3 * lines + reads_at room_size (drop at seen) ≤ finding_time day seen
  place_reads seen at lines so_far = here (next_stored day J (drop at seen)) refl
    where
      here : (o : Read Line) → next_stored day J (drop at seen) ≡ o → 3 * lines + reads_at room_size (drop at seen) ≤ finding_time day seen
      here None h = omega (arith, last_reads seen at lines so_far h)
      here (Some y) h =
          let more = longer (length y.1) day (y.0 ∷ J) y.1 in
          let same = ap (λ (f : History × List ℕ). length f.0) (sym (goes_further day J (drop at seen) y h) ∙ so_far.same) in
          omega (arith, more, same, so_far.lines_are, line_reads (drop at seen) y h)

-- ---- how they go on

module _ {D : Type 0} (seen : D → List ℕ) (image : D → List ℕ → Type 0) (clock : D → ℕ) (since : D → ℕ → List ℕ → Type 0) (lasts : D → ℕ → ℕ → ℕ → Type 0) (faults : D → ℕ) (cut_after : D → ℕ → ℕ → ℕ → Type 0) (less : LastsForLess lasts) (cut_less : IsCutForLess cut_after) where
  pub reads_none : (old : D) → ((c : List ℕ) → since old (clock old) c → image old c) → ReadsOnly seen image clock since lasts faults cut_after old old true 0
  reads_none old now = record {
    looks = looks_nowhere seen image clock since old now;
    sure = lasts_still lasts faults less old 0 0 0;
    cut = cut_none seen cut_after cut_less old;
  }

  pub reads_as : (old new : D) (well : Bool) (m n : ℕ) → m ≡ n → ReadsOnly seen image clock since lasts faults cut_after old new well m → ReadsOnly seen image clock since lasts faults cut_after old new well n
  reads_as old new well m n same is = subst (λ (k : ℕ). ReadsOnly seen image clock since lasts faults cut_after old new well k) same is

  -- one failed
  pub reads_off : (old new : D) (m n : ℕ) → m ≤ n → ReadsOnly seen image clock since lasts faults cut_after old new false m → ReadsOnly seen image clock since lasts faults cut_after old new false n
  reads_off old new m n few is = record {
    looks = looks_less seen image clock since old new m n few is.looks;
    sure = lasts_less lasts faults less old new m 0 0 n 0 0 few (omega arith) (omega arith) is.sure;
    cut = cut_off seen cut_after cut_less old new m 0 0 n 0 0 (λ (k : ℕ). seen old) (λ (k : ℕ). seen old) few (omega arith) (omega arith) (λ k low. refl) is.cut;
  }

  pub reads_on : (old mid new : D) (well : Bool) (m n t : ℕ) → m + n ≡ t → ReadsOnly seen image clock since lasts faults cut_after old mid true m → ReadsOnly seen image clock since lasts faults cut_after mid new well n → ReadsOnly seen image clock since lasts faults cut_after old new well t
  reads_on old mid new well m n t all first second = record {
    looks = looks_less seen image clock since old new (m + n) t (omega (arith, all)) (looks_on seen image clock since old mid new m n first.looks second.looks);
    sure = lasts_on lasts faults less old mid new m 0 0 n 0 0 t 0 0 (omega (arith, all)) (omega arith) (omega arith) first.sure second.sure;
    cut = cut_on seen cut_after cut_less old mid new well m 0 0 n 0 0 t 0 0 (λ (k : ℕ). seen old) (λ (s : List ℕ) (k : ℕ). s) (λ (k : ℕ). seen old) all (omega arith) (omega arith) (λ k low. refl) (λ k low. refl) first.cut second.cut;
  }

  -- one more, which failed
  pub reads_off_on : (old mid new : D) (m n t : ℕ) → m + n ≤ t → ReadsOnly seen image clock since lasts faults cut_after old mid true m → ReadsOnly seen image clock since lasts faults cut_after mid new false n → ReadsOnly seen image clock since lasts faults cut_after old new false t
  reads_off_on old mid new m n t few first second = reads_off old new (m + n) t few (reads_on old mid new false m n (m + n) refl first second)
