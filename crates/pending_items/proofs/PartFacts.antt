-- The rows of a pending item stand on the accounts on which it does.
use Rattle.std.proofs.Common.{◌≡◌, ℕ, zero, suc, ◌+◌, ◌<◌, ◌≤◌, Bool, true, false, not, ◌&&◌, cond, List, [], ◌∷◌, Option, Some, None, length, refl, sym, ap, ◌∙◌, subst, inl, inr, arith, map}
use Rattle.std.specs.Prelude.{filter, if◌then◌else◌, is_some, nat_eq, option_map, slice_get, unwrap_or}
use Rattle.std.specs.List.{list_any}
use Rattle.std.proofs.lemmas.Bool.{and_from, and_parts, eq-eqb, eqb-true, or_cases, or_left, or_right}
use Rattle.std.proofs.lemmas.Option.{slice_get_within}
use Rattle.batch_records.specs.DayRecord.{Day}
use Rattle.batch_records.specs.declared.day.Entry.{Entry}
use Rattle.commit_journal.specs.Line.{History}
use Rattle.machine.specs.declared.answers.Item.{Item}
use Rattle.machine.specs.declared.answers.Phase.{Phase}
use Rattle.machine.specs.Words.{is_zero, some_passes}
use Rattle.machine.specs.Records.Setup.{account_named}
use Rattle.machine.specs.Records.Messages.{Sort, Missing, Pay, BatchA, BatchB, BatchC, BatchE, debit_account, entries, entry_at, is_b, is_credit, is_credit_entry, is_debit, is_debit_entry, is_high, is_message, part, sort_of}
use Rattle.machine.specs.Stages.Phases.{is_booked, is_covered, is_open, phase}
use Rattle.machine.specs.Stages.Pending.{debit_account_of_part, debit_accounts_as, debtors, is_next_of_a, is_pending, item, pending_as, priority_as, stands_on}
use Rattle.settlement_laws.proofs.Wants.Foremost.{entry_there, entry_within}
use Rattle.settlement_laws.proofs.Base.Lists.{never}
use Rattle.settlement_laws.proofs.Base.Numbers.{position_found}
use Rattle.settlement_laws.proofs.DayEnd.Stops.{MessageAt, message_is}
use Rattle.payment_queue.specs.declared.row.Priority.TheVariants.{High, Normal}
use Rattle.payment_queue.specs.Standing.{rank}
use Rattle.pending_items.specs.Parts.{account_of, is_part, band, priority_of, waits, whole}
use Rattle.pending_items.proofs.NumberFacts.{IsItem}

-- ---- priorities

high_rank : (b : Bool) → rank (if b then High else Normal) ≡ (if b then 1 else 2)
high_rank true = refl
high_rank false = refl

pub rank_is : (s : Sort) (day : Day) (n : ℕ) → rank (priority_of s day n) ≡ priority_as s day n
rank_is Pay day n = high_rank (is_high day n)
rank_is _ day n = refl

-- ---- a pending item is one of the day's

whole_within : (k m : ℕ) → is_zero k ≡ true → k < suc m
whole_within zero m h = omega arith
whole_within (suc k) m h = never false h refl

next_within : (day : Day) (J : History) (n k : ℕ) → is_next_of_a day J n k ≡ true → k < suc (length (entries day n))
next_within day J n k h =
    elim (or_cases (is_debit day n k) (is_credit day n k && _) (and_parts (not (is_booked J n k)) _ h).1) [
      | inl d ↦ entry_within day n k (is_debit_entry day n) d
      | inr c ↦ entry_within day n k (is_credit_entry day n) (and_parts (is_credit day n k) _ c).0
    ]

pending_within : (s : Sort) (day : Day) (J : History) (n k : ℕ) (p : Phase) → pending_as s day J n k p ≡ true → k < suc (length (entries day n))
pending_within Pay day J n k p h = whole_within k (length (entries day n)) (and_parts (is_zero k) (is_open p) h).0
pending_within BatchA day J n k p h =
    elim (or_cases (is_open p && is_next_of_a day J n k) (is_covered p && is_credit day n k && not (is_booked J n k)) h) [
      | inl o ↦ next_within day J n k (and_parts (is_open p) (is_next_of_a day J n k) o).1
      | inr v ↦ entry_within day n k (is_credit_entry day n) (and_parts (is_covered p) (is_credit day n k) (and_parts _ (not (is_booked J n k)) v).0).1
    ]
pending_within BatchB day J n k p h = whole_within k (length (entries day n)) (and_parts (is_zero k) (is_open p) h).0
pending_within BatchC day J n k p h = entry_there day n k (and_parts (is_some (entry_at day n k)) (is_open p) (and_parts _ _ h).0).0
pending_within BatchE day J n k p h = entry_there day n k (and_parts (is_some (entry_at day n k)) (is_open p) (and_parts _ _ (and_parts _ _ h).0).0).0
pending_within _ day J n k p h = never false h refl

pending_message : (s : Sort) (day : Day) (J : History) (n k : ℕ) (p : Phase) → pending_as s day J n k p ≡ true → is_message s ≡ true
pending_message Missing day J n k p h = never false h refl
pending_message _ day J n k p h = refl

pub pending_item : (day : Day) (J : History) (x : Item) → is_pending day J x ≡ true → IsItem day x
unfolding is_pending
pending_item day J x h =
    let at : MessageAt day x.msg = message_is day x.msg (pending_message (sort_of day x.msg) day J x.msg x.entry (phase day J x.msg) h) in
    let number : x.msg ≡ suc at.place = at.number in
    let within : at.place < length day.messages = at.within in
    let low : x.entry < suc (length (entries day x.msg)) = pending_within (sort_of day x.msg) day J x.msg x.entry (phase day J x.msg) h in
    record { first = omega (arith, number); last = omega (arith, number, within); within = omega (arith, low) }

zero_of : (k : ℕ) (b : Bool) → (is_zero k && b) ≡ true → k ≡ 0
zero_of zero b h = refl
zero_of (suc k) b h = never false h refl

zero_of_b : (s : Sort) (day : Day) (J : History) (n k : ℕ) (p : Phase) → is_b s ≡ true → pending_as s day J n k p ≡ true → k ≡ 0
zero_of_b BatchB day J n k p e h = zero_of k (is_open p) h
zero_of_b _ day J n k p e h = never false e refl

pub pending_zero : (day : Day) (J : History) (y : Item) → is_b (sort_of day y.msg) ≡ true → is_pending day J y ≡ true → y.entry ≡ 0
unfolding is_pending
pending_zero day J y e h = zero_of_b (sort_of day y.msg) day J y.msg y.entry (phase day J y.msg) e h

-- ---- the debit entries of a batch

record Debtor (f : Entry → ℕ) (p : Entry → Bool) (a : ℕ) (es : List Entry) : Type 0 where
  pub place : ℕ
  pub entry : Entry
  pub there : slice_get es place ≡ Some entry
  pub passes : p entry ≡ true
  pub account : f entry ≡ a

find_debtor : (f : Entry → ℕ) (p : Entry → Bool) (a : ℕ) (es : List Entry) → list_any (λ b. nat_eq b a) (map f (filter p es)) ≡ true → Debtor f p a es
find_debtor f p a [] h = never false h refl
find_debtor f p a (e ∷ es) h = here (p e) refl h (find_debtor f p a es)
  where
    later : Debtor f p a es → Debtor f p a (e ∷ es)
    later d = record { place = suc d.place; entry = d.entry; there = d.there; passes = d.passes; account = d.account }

    here : (b : Bool) → p e ≡ b → list_any (λ b. nat_eq b a) (map f (cond b (e ∷ filter p es) (filter p es))) ≡ true → (list_any (λ b. nat_eq b a) (map f (filter p es)) ≡ true → Debtor f p a es) → Debtor f p a (e ∷ es)
    here false q h go = later (go h)
    here true q h go = elim (or_cases (nat_eq (f e) a) (list_any (λ b. nat_eq b a) (map f (filter p es))) h) [
      | inl s ↦ record { place = zero; entry = e; there = refl; passes = q; account = eqb-true (f e) a s }
      | inr r ↦ later (go r)
    ]

has_debtor : (f : Entry → ℕ) (p : Entry → Bool) (a : ℕ) (es : List Entry) (i : ℕ) (e : Entry) → slice_get es i ≡ Some e → p e ≡ true → f e ≡ a → list_any (λ b. nat_eq b a) (map f (filter p es)) ≡ true
has_debtor f p a [] i e h q s = cc
has_debtor f p a (x ∷ es) zero e h q s =
    let same : x ≡ e = cc in
    subst (λ (b : Bool). list_any (λ b. nat_eq b a) (map f (cond b (x ∷ filter p es) (filter p es))) ≡ true) (sym (ap p same ∙ q))
    (or_left (nat_eq (f x) a) (list_any (λ b. nat_eq b a) (map f (filter p es))) (eq-eqb (f x) a (ap f same ∙ s)))
has_debtor f p a (x ∷ es) (suc i) e h q s =
    let ih : list_any (λ b. nat_eq b a) (map f (filter p es)) ≡ true = has_debtor f p a es i e h q s in
    elim (p x) as (λ b. list_any (λ b. nat_eq b a) (map f (cond b (x ∷ filter p es) (filter p es))) ≡ true) [
      | true ↦ or_right (nat_eq (f x) a) (list_any (λ b. nat_eq b a) (map f (filter p es))) ih
      | false ↦ ih
    ]

-- ---- rows of a pending item

-- a row of the pending item y on account a
pub record IsRowOf (day : Day) (J : History) (a : ℕ) (y x : Item) : Type 0 where
  pub known : IsItem day x
  pub waits : waits day J x ≡ true
  pub of : whole day x ≡ y
  pub on : band day x ≡ a + 1

accounts_of : (s : Sort) (day : Day) (n k : ℕ) → is_b s ≡ false → debit_accounts_as s day n k ≡ debit_account_of_part day (part day n k)
accounts_of BatchB day n k h = never true refl h
accounts_of _ day n k h = refl

accounts_of_b : (s : Sort) (day : Day) (n k : ℕ) → is_b s ≡ true → debit_accounts_as s day n k ≡ debtors day n
accounts_of_b BatchB day n k h = refl
accounts_of_b _ day n k h = never false h refl

one_account : (day : Day) (a : ℕ) (o : Option Entry) → list_any (λ b. nat_eq b a) (debit_account_of_part day o) ≡ true → option_map (debit_account day) o ≡ Some a
one_account day a None h = never false h refl
one_account day a (Some e) h = elim (or_cases (nat_eq (debit_account day e) a) false h) [
  | inl s ↦ ap Some (eqb-true (debit_account day e) a s)
  | inr r ↦ never false r refl
]

on_account : (day : Day) (a : ℕ) (o : Option Entry) → option_map (debit_account day) o ≡ Some a → list_any (λ b. nat_eq b a) (debit_account_of_part day o) ≡ true
on_account day a None h = cc
on_account day a (Some e) h = (let same : debit_account day e ≡ a = cc in or_left (nat_eq (debit_account day e) a) false (eq-eqb (debit_account day e) a same))

band_of : (day : Day) (x : Item) (a : ℕ) → account_of day x ≡ Some a → band day x ≡ a + 1
band_of day x a e = ap (λ (o : Option ℕ). unwrap_or o 0 + 1) e

is_entry : (day : Day) (n i : ℕ) (e : Entry) → slice_get (entries day n) i ≡ Some e → part day n (suc i) ≡ Some e
is_entry day n i e h = h

pub row_there : (day : Day) (J : History) (a : ℕ) (y : Item) → is_pending day J y ≡ true → stands_on day a y ≡ true → (x : Item) × IsRowOf day J a y x
row_there day J a y pending on = here (is_b (sort_of day y.msg)) refl
  where
    known : IsItem day y
    known = pending_item day J y pending

    here : (b : Bool) → is_b (sort_of day y.msg) ≡ b → (x : Item) × IsRowOf day J a y x
    here false e =
        let account : account_of day y ≡ Some a = one_account day a (part day y.msg y.entry) (subst (λ bs. list_any (λ b. nat_eq b a) bs ≡ true) (accounts_of (sort_of day y.msg) day y.msg y.entry e) on) in
        let same : whole day y ≡ y = ap (λ b. if b then item y.msg 0 else y) e in
        let is_it : is_part day y ≡ true = ap (λ b. if b then is_debit day y.msg y.entry else is_some (account_of day y)) e ∙ ap is_some account in
        (y, record { known = known; waits = and_from _ _ is_it (ap (is_pending day J) same ∙ pending); of = same; on = band_of day y a account })
    here true e =
        let d : Debtor (debit_account day) (is_debit_entry day y.msg) a (entries day y.msg) =
        find_debtor (debit_account day) (is_debit_entry day y.msg) a (entries day y.msg) (subst (λ bs. list_any (λ b. nat_eq b a) bs ≡ true) (accounts_of_b (sort_of day y.msg) day y.msg y.entry e) on) in
        let x : Item = item y.msg (suc d.place) in
        let zero_entry : y.entry ≡ 0 = pending_zero day J y e pending in
        let same : whole day x ≡ y = ap (λ b. if b then item y.msg 0 else x) e ∙ (λ i. record { msg = y.msg; entry = sym zero_entry i }) in
        let is_it : is_part day x ≡ true = ap (λ b. if b then is_debit day y.msg (suc d.place) else is_some (account_of day x)) e ∙ (ap (some_passes (is_debit_entry day y.msg)) d.there ∙ d.passes) in
        let account : account_of day x ≡ Some a = ap (option_map (debit_account day)) d.there ∙ ap Some d.account in
        let within : d.place < length (entries day y.msg) = slice_get_within (entries day y.msg) d.place d.entry d.there in
        (x, record { known = record { first = known.first; last = known.last; within = omega (arith, within) }; waits = and_from _ _ is_it (ap (is_pending day J) same ∙ pending); of = same; on = band_of day x a account })

-- what has a row debits an account
debit_account_there : (day : Day) (n k : ℕ) → is_debit day n k ≡ true → is_some (account_of day (item n k)) ≡ true
debit_account_there day n zero h = never false h refl
debit_account_there day n (suc i) h = go (slice_get (entries day n) i) h
  where
    go : (o : Option Entry) → some_passes (is_debit_entry day n) o ≡ true → is_some (option_map (debit_account day) o) ≡ true
    go None h = never false h refl
    go (Some e) h = refl

pub part_account : (day : Day) (x : Item) → is_part day x ≡ true → is_some (account_of day x) ≡ true
part_account day x h = here (is_b (sort_of day x.msg)) h
  where
    here : (b : Bool) → (if b then is_debit day x.msg x.entry else is_some (account_of day x)) ≡ true → is_some (account_of day x) ≡ true
    here true h = debit_account_there day x.msg x.entry h
    here false h = h

pub row_back : (day : Day) (J : History) (a : ℕ) (x : Item) → waits day J x ≡ true → band day x ≡ a + 1 → (is_pending day J (whole day x) ≡ true) × (stands_on day a (whole day x) ≡ true)
row_back day J a x w on = ((and_parts (is_part day x) (is_pending day J (whole day x)) w).1, here (is_b (sort_of day x.msg)) refl)
  where
    is_it : is_part day x ≡ true
    is_it = (and_parts (is_part day x) (is_pending day J (whole day x)) w).0

    account : is_some (account_of day x) ≡ true → account_of day x ≡ Some a
    account h = there (account_of day x) refl h
      where
        there : (o : Option ℕ) → account_of day x ≡ o → is_some o ≡ true → account_of day x ≡ Some a
        there None e h = never false h refl
        there (Some b) e h = (let same : b + 1 ≡ a + 1 = sym (band_of day x b e) ∙ on in let b_is : b ≡ a = omega (arith, same) in e ∙ ap Some b_is)

    here : (b : Bool) → is_b (sort_of day x.msg) ≡ b → stands_on day a (whole day x) ≡ true
    here false e =
        let same : whole day x ≡ x = ap (λ b. if b then item x.msg 0 else x) e in
        let some : is_some (account_of day x) ≡ true = sym (ap (λ b. if b then is_debit day x.msg x.entry else is_some (account_of day x)) e) ∙ is_it in
        subst (λ (z : Item). stands_on day a z ≡ true) (sym same)
        (subst (λ bs. list_any (λ b. nat_eq b a) bs ≡ true) (sym (accounts_of (sort_of day x.msg) day x.msg x.entry e)) (on_account day a (part day x.msg x.entry) (account some)))
    here true e =
        let same : whole day x ≡ item x.msg 0 = ap (λ b. if b then item x.msg 0 else x) e in
        let debit : is_debit day x.msg x.entry ≡ true = sym (ap (λ b. if b then is_debit day x.msg x.entry else is_some (account_of day x)) e) ∙ is_it in
        subst (λ (z : Item). stands_on day a z ≡ true) (sym same)
        (subst (λ bs. list_any (λ b. nat_eq b a) bs ≡ true) (sym (accounts_of_b (sort_of day x.msg) day x.msg 0 e)) (of_debit x.entry debit (account (debit_account_there day x.msg x.entry debit))))
      where
        of_debit : (k : ℕ) → is_debit day x.msg k ≡ true → account_of day (item x.msg k) ≡ Some a → list_any (λ b. nat_eq b a) (debtors day x.msg) ≡ true
        of_debit zero h s = never false h refl
        of_debit (suc i) h s = go (slice_get (entries day x.msg) i) refl h s
          where
            go : (o : Option Entry) → slice_get (entries day x.msg) i ≡ o → some_passes (is_debit_entry day x.msg) o ≡ true → option_map (debit_account day) o ≡ Some a → list_any (λ b. nat_eq b a) (debtors day x.msg) ≡ true
            go None e h s = never false h refl
            go (Some d) e h s = (let same : debit_account day d ≡ a = cc in has_debtor (debit_account day) (is_debit_entry day x.msg) a (entries day x.msg) i d e h same)

-- ---- accounts are those of the day

named_small : (day : Day) (name : List ℕ) (o : Option ℕ) → account_named day name ≡ o → unwrap_or o 0 < length day.accounts + 1
named_small day name None e = omega arith
named_small day name (Some a) e =
    let f = position_found _ 1 day.accounts a e in
    let number : a ≡ 1 + f.place = f.number in
    let within : f.place < length day.accounts = f.within in
    omega (arith, number, within)

account_small : (day : Day) (o : Option Entry) → unwrap_or (option_map (debit_account day) o) 0 < length day.accounts + 1
account_small day None = omega arith
account_small day (Some e) = named_small day e.debit (account_named day e.debit) refl

pub band_small : (day : Day) (x : Item) → band day x ≤ length day.accounts + 1
band_small day x = let h : unwrap_or (account_of day x) 0 < length day.accounts + 1 = account_small day (part day x.msg x.entry) in omega (arith, h)
