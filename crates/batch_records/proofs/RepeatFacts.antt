-- The first message of a sender and identification, by its index in the list and by its number in the file.
use Rattle.std.proofs.Common.{◌≡◌, ◌<◌, ◌≤◌, ◌+◌, ◌-◌, ℕ, zero, suc, List, [], ◌∷◌, ◌++◌, Option, Some, None, Bool, true, false, cond, length, get_or, map, take, slice_get, position, refl, sym, ap, arith, ◌∙◌, ◌↔◌, inl, inr, append_assoc, add-one, zero-add}
use Rattle.std.specs.Prelude.{is_some, nat_lt, option_map, if◌then◌else◌}
use Rattle.std.specs.List.{find, position_from, range_with_len}
use Rattle.std.proofs.lemmas.Bool.{cases_Bool}
use Rattle.std.proofs.lemmas.Iterator.Adapters.{position_from-zero}
use Rattle.std.proofs.lemmas.List.{length-append}
use Rattle.std.proofs.lemmas.Option.{same_Some, slice_get_read}
use Rattle.cash_amounts.specs.Tests.{some_passes}
use Rattle.batch_records.specs.Flat.{with_entries, without_entries}
use Rattle.batch_records.specs.Numbers.{numbered}
use Rattle.batch_records.specs.Repeats.{first_of_name, is_named, is_repeat, message_at}
use Rattle.batch_records.specs.RepeatsInWords.{earlier, if_below}
use Rattle.batch_records.specs.DayRecord.{Day}
use Rattle.batch_records.specs.declared.day.Message.{Message}
use Rattle.batch_records.specs.declared.day.MessageRecord.{MessageRecord}
use Rattle.batch_records.proofs.BoolFacts.{lt_failed, lt_meant, lt_test}

numbered_at : {X : Type 0} (front : List X) (x : X) (rest : List X) → slice_get (front ++ x ∷ rest) (length front) ≡ Some x
numbered_at [] x rest = refl
numbered_at (y ∷ front) x rest = numbered_at front x rest

-- the search by numbers after a front is the one by indices
find_numbered : {X : Type 0} (t : X → Bool) (front xs : List X)
    → find (λ i. some_passes t (numbered (front ++ xs) i)) (range_with_len (length front + 1) (length xs)) ≡ option_map (λ i. i + 1) (position_from t (length front) xs)
find_numbered t front [] = refl
find_numbered {X} t front (x ∷ rest) =
    let here : numbered (front ++ x ∷ rest) (length front + 1) ≡ Some x = rw (add-one (length front)) (numbered_at front x rest) in
    let more = rw (append_assoc front (x ∷ []) rest, length-append front (x ∷ [])) at (find_numbered t (front ++ x ∷ []) rest) in
    rw here
    (elim (t x) as (λ b. cond b (Some (length front + 1)) (find (λ i. some_passes t (numbered (front ++ x ∷ rest) i)) (range_with_len (length front + 1 + 1) (length rest)))
    ≡ option_map (λ i. i + 1) (cond b (Some (length front)) (position_from t (length front + 1) rest))) [
      | true ↦ refl
      | false ↦ more
    ])

not_below : (i j : ℕ) → i ≤ j → nat_lt j i ≡ false
not_below i j le =
    elim (cases_Bool (nat_lt j i)) [
      | inl e ↦ let lt = lt_meant j i e in absurd (omega arith)
      | inr e ↦ e
    ]

none_below : {X : Type 0} (t : X → Bool) (i j : ℕ) (xs : List X) → i ≤ j → if_below i (position_from t j xs) ≡ None
none_below t i j [] le = refl
none_below t i j (x ∷ xs) le =
    elim (t x) as (λ b. if_below i (cond b (Some j) (position_from t (j + 1) xs)) ≡ None) [
      | true ↦ rw (not_below i j le) refl
      | false ↦ none_below t i (j + 1) xs (omega arith)
    ]

-- a search in a front is the search in all, where it finds one in the front
position_take : {X : Type 0} (t : X → Bool) (i k : ℕ) (xs : List X) → position_from t i (take k xs) ≡ if_below (i + k) (position_from t i xs)
position_take t i zero xs = sym (none_below t (i + 0) i xs (omega arith))
position_take t i (suc k) [] = refl
position_take t i (suc k) (x ∷ xs) =
    let within : i + 1 + k ≡ i + suc k = omega arith in
    elim (t x) as (λ b. cond b (Some i) (position_from t (i + 1) (take k xs)) ≡ if_below (i + suc k) (cond b (Some i) (position_from t (i + 1) xs))) [
      | true ↦ rw (lt_test i (i + suc k) (omega arith)) refl
      | false ↦ rw within at (position_take t (i + 1) k xs)
    ]

same_side : (i n : ℕ) → 1 ≤ n → nat_lt i (n - 1) ≡ nat_lt (i + 1) n
same_side i n some =
    elim (cases_Bool (nat_lt i (n - 1))) [
      | inl e ↦ let lt = lt_meant i (n - 1) e in e ∙ sym (lt_test (i + 1) n (omega arith))
      | inr e ↦ let le = lt_failed i (n - 1) e in e ∙ sym (not_below n (i + 1) (omega arith))
    ]

below_next : (n : ℕ) (o : Option ℕ) → 1 ≤ n → option_map (λ i. i + 1) (if_below (n - 1) o) ≡ if_below n (option_map (λ i. i + 1) o)
below_next n None some = refl
below_next n (Some i) some =
    rw (same_side i n some)
    (elim (nat_lt (i + 1) n) as (λ b. option_map (λ i. i + 1) (if b then Some i else None) ≡ (if b then Some (i + 1) else None)) [ true ↦ refl | false ↦ refl ])

numbered_is : {X : Type 0} (xs : List X) (n : ℕ) → 1 ≤ n → numbered xs n ≡ slice_get xs (n - 1)
numbered_is xs zero some = absurd (omega arith)
numbered_is xs (suc n) some = let back : suc n - 1 ≡ n = omega arith in rw back refl

-- the search in the messages before n, which the code makes
pub earlier_found : (day : Day) (n : ℕ) (own : Message) → 1 ≤ n → n ≤ length day.messages → own ≡ get_or day.messages (n - 1) own
    → option_map (λ i. i + 1) (position (λ m. is_named own.sender own.id m) (take (n - 1) day.messages)) ≡ earlier day n
earlier_found day n own some within is =
    let at : message_at day n ≡ Some own = numbered_is day.messages n some ∙ slice_get_read day.messages (length day.messages) (n - 1) own refl (omega arith) is in
    let all = find_numbered (is_named own.sender own.id) [] day.messages in
    let front = rw (zero-add (n - 1)) at (position_take (is_named own.sender own.id) 0 (n - 1) day.messages) in
    let here = position_from-zero (is_named own.sender own.id) (take (n - 1) day.messages) in
    rw at (ap (option_map (λ i. i + 1)) (here ∙ front) ∙ below_next n (position_from (is_named own.sender own.id) 0 day.messages) some ∙ ap (if_below n) (sym all))

-- ---- the same in the records of the messages

recorded_from : {X Y : Type 0} (g : X → Y) (p : Y → Bool) (s k : ℕ) (xs : List X) → position_from p s (take k (map g xs)) ≡ position_from (λ x. p (g x)) s (take k xs)
recorded_from g p s zero xs = refl
recorded_from g p s (suc k) [] = refl
recorded_from g p s (suc k) (x ∷ xs) = ap (λ o. cond (p (g x)) (Some s) o) (recorded_from g p (s + 1) k xs)

recorded : {X Y : Type 0} (g : X → Y) (p : Y → Bool) (k : ℕ) (xs : List X) → position p (take k (map g xs)) ≡ position (λ x. p (g x)) (take k xs)
recorded g p k xs = position_from-zero p (take k (map g xs)) ∙ recorded_from g p 0 k xs ∙ sym (position_from-zero (λ x. p (g x)) (take k xs))

item_recorded : {X Y : Type 0} (g : X → Y) (i : ℕ) (xs : List X) (y : Y) (d : X) → i < length xs → y ≡ get_or (map g xs) i y → y ≡ g (get_or xs i d)
item_recorded g i [] y d l e = absurd (omega arith)
item_recorded g zero (x ∷ xs) y d l e = e
item_recorded g (suc i) (x ∷ xs) y d l e = item_recorded g i xs y d (omega (arith, l)) e

any_default : {X : Type 0} (i : ℕ) (xs : List X) (d e : X) → i < length xs → get_or xs i d ≡ get_or xs i e
any_default i [] d e l = absurd (omega arith)
any_default zero (x ∷ xs) d e l = refl
any_default (suc i) (x ∷ xs) d e l = any_default i xs d e (omega (arith, l))

pub earlier_recorded : (day : Day) (n : ℕ) (own : MessageRecord) → 1 ≤ n → n ≤ length day.messages → own ≡ get_or (map without_entries day.messages) (n - 1) own
    → option_map (λ i. i + 1) (position (λ m. is_named own.sender own.id (with_entries m [])) (take (n - 1) (map without_entries day.messages))) ≡ earlier day n
earlier_recorded day n own some within is =
    let inside : n - 1 < length day.messages = omega (arith, some, within) in
    let whole : Message = get_or day.messages (n - 1) (with_entries own []) in
    let same : own ≡ without_entries whole = item_recorded without_entries (n - 1) day.messages own (with_entries own []) inside is in
    ap (option_map (λ i. i + 1)) (recorded without_entries (λ m. is_named own.sender own.id (with_entries m [])) (n - 1) day.messages
    ∙ ap (λ (r : MessageRecord). position (λ m. is_named r.sender r.id m) (take (n - 1) day.messages)) same)
    ∙ earlier_found day n whole some within (any_default (n - 1) day.messages (with_entries own []) whole inside)

-- ---- what a repeat is

below_is : (n : ℕ) (o : Option ℕ) → is_some (if_below n o) ≡ some_passes (λ first. nat_lt first n) o
below_is n None = refl
below_is n (Some i) = elim (nat_lt i n) as (λ b. is_some (if b then Some i else None) ≡ b) [ true ↦ refl | false ↦ refl ]

pub earlier_is_repeat : (day : Day) (n : ℕ) → is_some (earlier day n) ≡ is_repeat day n
earlier_is_repeat day n = below_is n (first_of_name day n)

below_meant : (n i : ℕ) (o : Option ℕ) → if_below n o ≡ Some i → (o ≡ Some i) × (i < n)
below_meant n i None e = cc e
below_meant n i (Some j) e =
    (elim (nat_lt j n) as (λ b. nat_lt j n ≡ b → (if b then Some j else None) ≡ Some i → (Some j ≡ Some i) × (i < n)) [
      | true ↦ λ below h. let same = same_Some j i h in let lt = lt_meant j n below in (h, omega arith)
      | false ↦ λ past h. cc h
    ]) refl e

below_found : (n i : ℕ) (o : Option ℕ) → o ≡ Some i → i < n → if_below n o ≡ Some i
below_found n i o e lt = rw (e, lt_test i n lt) refl

pub earlier_is_first : (day : Day) (n i : ℕ) → earlier day n ≡ Some i ↔ ((first_of_name day n ≡ Some i) × (i < n))
earlier_is_first day n i = (below_meant n i (first_of_name day n), λ h. below_found n i (first_of_name day n) h.0 h.1)
