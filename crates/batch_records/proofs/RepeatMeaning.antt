-- A message is a repeat exactly where a message before it has its sender and identification, and the earlier one is the first of these.
use Rattle.std.proofs.Common.{◌≡◌, ◌<◌, ◌≤◌, ◌+◌, ℕ, zero, suc, List, Option, Some, None, Bool, true, false, cond, length, refl, subst, ap, arith, ◌∙◌, ◌↔◌, inl, inr}
use Rattle.std.specs.Prelude.{nat_lt}
use Rattle.std.specs.List.{find, range_with_len}
use Rattle.std.proofs.lemmas.Bool.{cases_Bool}
use Rattle.std.proofs.lemmas.Option.{same_Some, slice_get_within}
use Rattle.std.proofs.lemmas.Slice.Eq.{bytes_eq-Decides}
use Rattle.cash_amounts.specs.Tests.{same_name, some_passes}
use Rattle.batch_records.specs.Numbers.{numbered}
use Rattle.batch_records.specs.Repeats.{first_of_name, is_named, is_repeat, message_at}
use Rattle.batch_records.specs.RepeatsInWords.{AreOfOneName, IsRepeatOf, IsRepeatOfFirst, earlier}
use Rattle.batch_records.specs.DayRecord.{Day}
use Rattle.batch_records.specs.declared.day.Message.{Message}
use Rattle.batch_records.proofs.RepeatFacts.{earlier_is_first}
use Rattle.batch_records.proofs.BoolFacts.{and_both, lt_failed, lt_meant, lt_test}

-- ---- the first number that passes

stays_false : (p : ℕ → Bool) (s i j : ℕ) → p s ≡ false → ((j : ℕ) → s + 1 ≤ j → j < i → p j ≡ false) → s ≤ j → j < i → p j ≡ false
stays_false p s i j here more from below =
    elim (cases_Bool (nat_lt s j)) [
      | inl e ↦ let lt = lt_meant s j e in more j (omega arith) below
      | inr e ↦ let le = lt_failed s j e in let at : s ≡ j = omega arith in subst (λ (x : ℕ). p x ≡ false) at here
    ]

find_first : (p : ℕ → Bool) (s k i : ℕ) → find p (range_with_len s k) ≡ Some i → (p i ≡ true) × ((j : ℕ) → s ≤ j → j < i → p j ≡ false)
find_first p s zero i e = cc e
find_first p s (suc k) i e =
    (elim (p s) as (λ b. p s ≡ b → cond b (Some s) (find p (range_with_len (s + 1) k)) ≡ Some i → (p i ≡ true) × ((j : ℕ) → s ≤ j → j < i → p j ≡ false)) [
      | true ↦ λ h f. let same = same_Some s i f in (subst (λ (x : ℕ). p x ≡ true) same h, λ j from below. absurd (omega arith))
      | false ↦ λ h f. let more = find_first p (s + 1) k i f in (more.0, λ j from below. stays_false p s i j h more.1 from below)
    ]) refl e

behind : (p : ℕ → Bool) (s j : ℕ) → p s ≡ false → p j ≡ true → s ≤ j → s + 1 ≤ j
behind p s j here passes from =
    elim (cases_Bool (nat_lt s j)) [
      | inl e ↦ let lt = lt_meant s j e in omega arith
      | inr e ↦ let le = lt_failed s j e in let at : s ≡ j = omega arith in let other = subst (λ (x : ℕ). p x ≡ false) at here in cc (other, passes)
    ]

find_there : (p : ℕ → Bool) (s k j : ℕ) → s ≤ j → j < s + k → p j ≡ true → (i : ℕ) × (find p (range_with_len s k) ≡ Some i)
find_there p s zero j from within passes = absurd (omega arith)
find_there p s (suc k) j from within passes =
    (elim (p s) as (λ b. p s ≡ b → (i : ℕ) × (cond b (Some s) (find p (range_with_len (s + 1) k)) ≡ Some i)) [
      | true ↦ λ h. (s, refl)
      | false ↦ λ h. let past = behind p s j h passes from in find_there p (s + 1) k j past (omega arith) passes
    ]) refl

-- ---- messages of one name

passes_meant : (own : Message) (o : Option Message) → some_passes (is_named own.sender own.id) o ≡ true → AreOfOneName (Some own) o
passes_meant own None e = cc e
passes_meant own (Some m) e =
    let both = and_both (same_name m.sender own.sender) (same_name m.id own.id) e in
    ((bytes_eq-Decides m.sender own.sender).0 both.0, (bytes_eq-Decides m.id own.id).0 both.1)

passes_found : (own : Message) (o : Option Message) → AreOfOneName (Some own) o → some_passes (is_named own.sender own.id) o ≡ true
passes_found own None h = absurd h
passes_found own (Some m) h =
    let from = (bytes_eq-Decides m.sender own.sender).1 h.0 in
    let id = (bytes_eq-Decides m.id own.id).1 h.1 in
    rw (from, id) refl

-- a message of some name has a number of the list
numbered_within : {X : Type 0} (xs : List X) (n : ℕ) (x : X) → numbered xs n ≡ Some x → (1 ≤ n) × (n < 1 + length xs)
numbered_within xs zero x e = cc e
numbered_within xs (suc n) x e = let within = slice_get_within xs n x e in (omega arith, omega arith)

there : (own : Option Message) (xs : List Message) (i : ℕ) → AreOfOneName own (numbered xs i) → (1 ≤ i) × (i < 1 + length xs)
there own xs i h = by_item (numbered xs i) own refl h
  where
    by_item : (o own : Option Message) → numbered xs i ≡ o → AreOfOneName own o → (1 ≤ i) × (i < 1 + length xs)
    by_item None None e h = absurd h
    by_item None (Some m) e h = absurd h
    by_item (Some m) own e h = numbered_within xs i m e

-- ---- the first of a name

first_is : (day : Day) (n i : ℕ) (own : Message) → message_at day n ≡ Some own → first_of_name day n ≡ Some i
    → AreOfOneName (Some own) (message_at day i) × ((j : ℕ) → AreOfOneName (Some own) (message_at day j) → i ≤ j)
first_is day n i own held e =
    let test = λ (j : ℕ). some_passes (is_named own.sender own.id) (message_at day j) in
    let found = find_first test 1 (length day.messages) i (rw held at e) in
    (passes_meant own (message_at day i) found.0, λ j h. least test i j found.1 (there (Some own) day.messages j h).0 (passes_found own (message_at day j) h))
  where
    least : (p : ℕ → Bool) (i j : ℕ) → ((j : ℕ) → 1 ≤ j → j < i → p j ≡ false) → 1 ≤ j → p j ≡ true → i ≤ j
    least p i j none from passes =
        elim (cases_Bool (nat_lt j i)) [
          | inl e ↦ let other = none j from (lt_meant j i e) in cc (other, passes)
          | inr e ↦ lt_failed j i e
        ]

first_there : (day : Day) (n j : ℕ) (own : Message) → message_at day n ≡ Some own → AreOfOneName (Some own) (message_at day j) → (i : ℕ) × (first_of_name day n ≡ Some i)
first_there day n j own held h =
    let test = λ (j : ℕ). some_passes (is_named own.sender own.id) (message_at day j) in
    let within = there (Some own) day.messages j h in
    let found = find_there test 1 (length day.messages) j within.0 within.1 (passes_found own (message_at day j) h) in
    (found.0, rw held found.1)

-- ---- what a repeat is

repeat_meant : (day : Day) (n : ℕ) (own : Option Message) (o : Option ℕ) → message_at day n ≡ own → first_of_name day n ≡ o → some_passes (λ first. nat_lt first n) o ≡ true
    → (i : ℕ) × IsRepeatOf day n i
repeat_meant day n own None held e passes = cc passes
repeat_meant day n None (Some i) held e passes = let none = rw held at e in cc none
repeat_meant day n (Some own) (Some i) held e passes = (i, rw held ((first_is day n i own held e).0, lt_meant i n passes))

repeat_found : (day : Day) (n i : ℕ) (own : Option Message) → message_at day n ≡ own → IsRepeatOf day n i → is_repeat day n ≡ true
repeat_found day n i None held h = let same = rw held at h.0 in absurd same
repeat_found day n i (Some own) held h =
    let same = rw held at h.0 in
    let found = first_there day n i own held same in
    let first = first_is day n found.0 own held found.1 in
    let le = first.1 i same in
    let below = h.1 in
    rw found.1 (lt_test found.0 n (omega arith))

pub repeat_means : (day : Day) (n : ℕ) → is_repeat day n ≡ true ↔ ((i : ℕ) × IsRepeatOf day n i)
repeat_means day n = (repeat_meant day n (message_at day n) (first_of_name day n) refl refl, λ h. repeat_found day n h.0 (message_at day n) refl h.1)

-- ---- which one is the earlier

earlier_meant : (day : Day) (n i : ℕ) (own : Option Message) → message_at day n ≡ own → first_of_name day n ≡ Some i → i < n → IsRepeatOfFirst day n i
earlier_meant day n i None held e below = let none = rw held at e in cc none
earlier_meant day n i (Some own) held e below =
    let first = first_is day n i own held e in
    rw held ((first.0, below), λ j h. first.1 j h.0)

earlier_there : (day : Day) (n i : ℕ) (own : Option Message) → message_at day n ≡ own → IsRepeatOfFirst day n i → first_of_name day n ≡ Some i
earlier_there day n i None held h = let same = rw held at h.0.0 in absurd same
earlier_there day n i (Some own) held h =
    let same = rw held at h.0.0 in
    let found = first_there day n i own held same in
    let first = first_is day n found.0 own held found.1 in
    let le = first.1 i same in
    let below = h.0.1 in
    let least = h.1 found.0 (rw held (first.0, omega arith)) in
    let one : found.0 ≡ i = omega arith in
    found.1 ∙ ap (λ (x : ℕ). Some x) one

pub earlier_is_least : (day : Day) (n i : ℕ) → earlier day n ≡ Some i ↔ IsRepeatOfFirst day n i
earlier_is_least day n i = (
  λ e. let both = (earlier_is_first day n i).0 e in earlier_meant day n i (message_at day n) refl both.0 both.1,
  λ h. (earlier_is_first day n i).1 (earlier_there day n i (message_at day n) refl h, h.0.1),
)
