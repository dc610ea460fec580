-- The messages of a trial by their numbers, and the accounts of their entries.
use Rattle.std.proofs.Common.{◌≡◌, ℕ, zero, suc, ◌+◌, ◌*◌, ◌≤◌, ◌<◌, Bool, true, false, List, [], ◌∷◌, ◌++◌, Some, None, refl, sym, ap, ◌∙◌, subst, arith, length, cond, ◌⊎◌, inl, inr}
use Rattle.std.specs.Prelude.{nat_lt, map, filter, sum_by, slice_get, decimal}
use Rattle.std.specs.List.{range_with_len}
use Rattle.std.proofs.lemmas.Bool.{ltb-true, ltb-false, false_from_ne_true}
use Rattle.std.proofs.lemmas.Fmt.{decimal_injective}
use Rattle.std.proofs.lemmas.List.Elements.{filter-append}
use Rattle.std.proofs.lemmas.List.Sums.{sum_by-cons}
use Rattle.cash_amounts.specs.declared.records.Procedure.TheVariants.{A, B, E}
use Rattle.batch_records.specs.declared.day.Message.{Message}
use Rattle.batch_records.specs.declared.day.Entry.{Entry}
use Rattle.batch_records.specs.Repeats.{message_at, is_repeat}
use Rattle.batch_records.specs.RepeatsInWords.{AreOfOneName}
use Rattle.batch_records.proofs.RepeatMeaning.{repeat_means}
use Rattle.machine.specs.Stages.Intake.{amount_of}
use Rattle.settlement_laws.proofs.Base.Lists.{IsIn, from_map}
use Rattle.settlement_laws.proofs.Balances.TouchesItsAccounts.{from_both}
use Rattle.trial_day.specs.declared.draws.Trio.{Trio}
use Rattle.trial_day.specs.Trial.{drawn_amount, drawn_debit, drawn_credit, drawn_other, debit_entry, credit_entry, entries_over, procedure_by, system_of_message, trial_message, trial_accounts, trial_systems, generated}

-- ---- numbers

mapped_get : {X : Type 0} (f : ℕ → X) (s n i : ℕ) → i < n → slice_get (map f (range_with_len s n)) i ≡ Some (f (s + i))
mapped_get f s zero i h = absurd (omega arith)
mapped_get f s (suc n) zero h = let e : s ≡ s + 0 = omega arith in ap (λ k. Some (f k)) e
mapped_get f s (suc n) (suc i) h = let e : s + 1 + i ≡ s + suc i = omega arith in mapped_get f (s + 1) n i (omega arith) ∙ ap (λ k. Some (f k)) e

mapped_past : {X : Type 0} (f : ℕ → X) (s n i : ℕ) → n ≤ i → slice_get (map f (range_with_len s n)) i ≡ None
mapped_past f s zero i h = refl
mapped_past f s (suc n) zero h = absurd (omega arith)
mapped_past f s (suc n) (suc i) h = mapped_past f (s + 1) n i (omega arith)

pub mapped_length : {X : Type 0} (f : ℕ → X) (s n : ℕ) → length (map f (range_with_len s n)) ≡ n
mapped_length f s zero = refl
mapped_length f s (suc n) = ap suc (mapped_length f (s + 1) n)

-- ---- the day

module _ (seed batches : ℕ) where
  pub accounts_are : (generated seed batches).accounts ≡ trial_accounts
  unfolding generated
  accounts_are = refl

  pub systems_are : (generated seed batches).systems ≡ trial_systems
  unfolding generated
  systems_are = refl

  pub stops_are : (generated seed batches).stops ≡ []
  unfolding generated
  stops_are = refl

  pub messages_are : (generated seed batches).messages ≡ map (trial_message seed) (range_with_len 1 batches)
  unfolding generated
  messages_are = refl

  pub message_count : length (generated seed batches).messages ≡ batches
  message_count = ap length messages_are ∙ mapped_length (trial_message seed) 1 batches

  pub message_there : (n : ℕ) → 1 ≤ n → n < 1 + batches → message_at (generated seed batches) n ≡ Some (trial_message seed n)
  message_there zero low high = absurd (omega arith)
  message_there (suc i) low high = let e : 1 + i ≡ suc i = omega arith in ap (λ (ms : List Message). slice_get ms i) messages_are ∙ mapped_get (trial_message seed) 1 batches i (omega arith) ∙ ap (λ k. Some (trial_message seed k)) e

  message_past : (n : ℕ) → (1 ≤ n → n < 1 + batches → ⊥) → message_at (generated seed batches) n ≡ None
  message_past zero h = refl
  message_past (suc i) h = ap (λ (ms : List Message). slice_get ms i) messages_are ∙ mapped_past (trial_message seed) 1 batches i (past (nat_lt i batches) refl)
    where
      past : (b : Bool) → nat_lt i batches ≡ b → batches ≤ i
      past true e = let l = ltb-true i batches e in absurd (h (omega arith) (omega (arith, l)))
      past false e = ltb-false i batches e

  pub message_cases : (n : ℕ) → (message_at (generated seed batches) n ≡ None) ⊎ ((1 ≤ n) × (n < 1 + batches) × (message_at (generated seed batches) n ≡ Some (trial_message seed n)))
  message_cases n = here (nat_lt 0 n) refl (nat_lt n (1 + batches)) refl
    where
      here : (a : Bool) → nat_lt 0 n ≡ a → (b : Bool) → nat_lt n (1 + batches) ≡ b → (message_at (generated seed batches) n ≡ None) ⊎ ((1 ≤ n) × (n < 1 + batches) × (message_at (generated seed batches) n ≡ Some (trial_message seed n)))
      here true e true f = let x : 1 ≤ n = omega (arith, ltb-true 0 n e) in let y = ltb-true n (1 + batches) f in inr (x, y, message_there n x y)
      here false e b f = let x = ltb-false 0 n e in inl (message_past n (λ low high. omega (arith, x, low)))
      here true e false f = let y = ltb-false n (1 + batches) f in inl (message_past n (λ low high. omega (arith, y, high)))

  -- ---- no message repeats another

  same_id : (i n : ℕ) → batches ≤ 10000 → i < n → n < 1 + batches → AreOfOneName (Some (trial_message seed n)) (Some (trial_message seed i)) → ⊥
  unfolding trial_message
  same_id i n small low high h =
      let d : decimal i ≡ decimal n = ap tail h.1 in
      let q : i ≡ n = decimal_injective i n (omega (arith, low, high, small)) (omega (arith, high, small)) d in
      omega (arith, q, low)
    where
      tail : List ℕ → List ℕ
      tail [] = []
      tail (x ∷ xs) = xs

  pub no_repeat : batches ≤ 10000 → (n : ℕ) → is_repeat (generated seed batches) n ≡ false
  no_repeat small n = false_from_ne_true (is_repeat (generated seed batches) n) (λ r. let w = (repeat_means (generated seed batches) n).0 r in here w.0 (message_cases n) (message_cases w.0) w.1.0 w.1.1)
    where
      here : (i : ℕ) →
          (message_at (generated seed batches) n ≡ None) ⊎ ((1 ≤ n) × (n < 1 + batches) × (message_at (generated seed batches) n ≡ Some (trial_message seed n))) →
          (message_at (generated seed batches) i ≡ None) ⊎ ((1 ≤ i) × (i < 1 + batches) × (message_at (generated seed batches) i ≡ Some (trial_message seed i))) →
          AreOfOneName (message_at (generated seed batches) n) (message_at (generated seed batches) i) → i < n → ⊥
      here i (inl e) other h l = subst (λ o. AreOfOneName o (message_at (generated seed batches) i)) e h
      here i (inr m) (inl e) h l = subst (λ o. AreOfOneName (Some (trial_message seed n)) o) e (subst (λ o. AreOfOneName o (message_at (generated seed batches) i)) m.2 h)
      here i (inr m) (inr o) h l = same_id i n small l m.1 (subst (λ x. AreOfOneName (Some (trial_message seed n)) x) o.2 (subst (λ x. AreOfOneName x (message_at (generated seed batches) i)) m.2 h))

-- ---- the procedure of a message is A, B or E

pub drawn_procedure : (r : ℕ) → (procedure_by r ≡ A) ⊎ ((procedure_by r ≡ B) ⊎ (procedure_by r ≡ E))
drawn_procedure zero = inr (inr refl)
drawn_procedure (suc zero) = inl refl
drawn_procedure (suc (suc zero)) = inr (inl refl)
drawn_procedure (suc (suc (suc r))) = inr (inr refl)

pub system_low : (i : ℕ) → 1 ≤ system_of_message i
system_low i = omega arith

pub system_high : (i : ℕ) → system_of_message i < 9
system_high i = omega arith

pub debit_low : (t : Trio) → 1 ≤ drawn_debit t
debit_low t = omega arith

pub debit_high : (t : Trio) → drawn_debit t < 17
debit_high t = omega arith

pub credit_low : (t : Trio) → 1 ≤ drawn_credit t
credit_low t = omega arith

pub credit_high : (t : Trio) → drawn_credit t < 17
credit_high t = omega arith

pub other_low : (t : Trio) → 1 ≤ drawn_other t
other_low t = omega arith

pub other_high : (t : Trio) → drawn_other t < 17
other_high t = omega arith

pub other_differs : (t : Trio) → drawn_debit t ≡ drawn_other t → ⊥
other_differs t e = omega (arith, e)

pub amount_low : (t : Trio) → 0 < drawn_amount t
amount_low t = omega arith

pub amount_small : (t : Trio) → drawn_amount t ≤ 10000
amount_small t = omega arith

-- ---- entries over a technical account

pub over_cases : (name : List ℕ) (ts : List Trio) (e : Entry) → IsIn e (entries_over name ts) → ((t : Trio) × (debit_entry name t ≡ e)) ⊎ ((t : Trio) × (credit_entry name t ≡ e))
over_cases name ts e i = elim (from_both (map (debit_entry name) ts) (map (credit_entry name) ts) e i) [
  | inl j ↦ let r = from_map (debit_entry name) ts e j in inl (r.0, r.2)
  | inr j ↦ let r = from_map (credit_entry name) ts e j in inr (r.0, r.2)
]

filter_all : (f : Trio → Entry) (test : Entry → Bool) → ((t : Trio) → test (f t) ≡ true) → (ts : List Trio) → filter test (map f ts) ≡ map f ts
filter_all f test h [] = refl
filter_all f test h (t ∷ ts) = (λ i. cond (h t i) (f t ∷ filter test (map f ts)) (filter test (map f ts))) ∙ ap (λ es. f t ∷ es) (filter_all f test h ts)

filter_none : (f : Trio → Entry) (test : Entry → Bool) → ((t : Trio) → test (f t) ≡ false) → (ts : List Trio) → filter test (map f ts) ≡ []
filter_none f test h [] = refl
filter_none f test h (t ∷ ts) = (λ i. cond (h t i) (f t ∷ filter test (map f ts)) (filter test (map f ts))) ∙ filter_none f test h ts

nothing_behind : (es : List Entry) → es ++ [] ≡ es
nothing_behind [] = refl
nothing_behind (e ∷ es) = ap (λ xs. e ∷ xs) (nothing_behind es)

pub first_side : (name : List ℕ) (ts : List Trio) (test : Entry → Bool) → ((t : Trio) → test (debit_entry name t) ≡ true) → ((t : Trio) → test (credit_entry name t) ≡ false) → filter test (entries_over name ts) ≡ map (debit_entry name) ts
first_side name ts test h k =
    filter-append test (map (debit_entry name) ts) (map (credit_entry name) ts) ∙ (λ i. filter_all (debit_entry name) test h ts i ++ filter_none (credit_entry name) test k ts i) ∙ nothing_behind (map (debit_entry name) ts)

pub second_side : (name : List ℕ) (ts : List Trio) (test : Entry → Bool) → ((t : Trio) → test (debit_entry name t) ≡ false) → ((t : Trio) → test (credit_entry name t) ≡ true) → filter test (entries_over name ts) ≡ map (credit_entry name) ts
second_side name ts test h k =
    filter-append test (map (debit_entry name) ts) (map (credit_entry name) ts) ∙ (λ i. filter_none (debit_entry name) test h ts i ++ filter_all (credit_entry name) test k ts i)

pub sides_same : (name : List ℕ) (ts : List Trio) → sum_by amount_of (map (debit_entry name) ts) ≡ sum_by amount_of (map (credit_entry name) ts)
sides_same name [] = refl
sides_same name (t ∷ ts) =
    sum_by-cons amount_of (debit_entry name t) (map (debit_entry name) ts) ∙ ap (λ x. drawn_amount t + x) (sides_same name ts) ∙ sym (sum_by-cons amount_of (credit_entry name t) (map (credit_entry name) ts))

-- ---- amounts

pub sum_small : (es : List Entry) → ((e : Entry) → IsIn e es → e.amount ≤ 10000) → sum_by amount_of es ≤ 10000 * length es
sum_small [] h = omega arith
sum_small (e ∷ es) h =
    let k : sum_by amount_of es ≤ 10000 * length es = sum_small es (λ x i. h x (inr i)) in
    let s : e.amount ≤ 10000 = h e (inl refl) in
    let c : sum_by amount_of (e ∷ es) ≡ e.amount + sum_by amount_of es = sum_by-cons amount_of e es in
    omega arith
