-- What is wrong with a day after another, and that a day joins where nothing is.
use Rattle.std.proofs.Common.{◌≡◌, ◌∙◌, ℕ, zero, suc, ◌+◌, ◌<◌, ◌≤◌, ◌⊎◌, inl, inr, Bool, true, false, not, cond, List, [], ◌∷◌, length, map, Option, Some, None, refl, sym, ap, subst, arith}
use Rattle.std.specs.Prelude.{if◌then◌else◌, max, nat_eq, option_map, slice_get, is_some, unwrap_or}
use Rattle.std.specs.List.{find, list_all, range_with_len}
use Rattle.std.proofs.lemmas.Bool.{and_parts, and_from, cases_eq, eq-eqb, eqb-true, false≢true}
use Rattle.std.proofs.lemmas.List.{length-map}
use Rattle.std.proofs.lemmas.Option.{slice_get_past}
use Rattle.cash_amounts.specs.declared.records.AccountRecord.{AccountRecord}
use Rattle.cash_amounts.specs.declared.records.SystemRecord.{SystemRecord}
use Rattle.batch_records.specs.DayRecord.{Day}
use Rattle.settlement_laws.proofs.Base.Sums.{all-at, all-from}
use Rattle.machine.specs.Records.Setup.{account_numbers, opening}
use Rattle.machine.specs.Words.{first_some, is_technical, numbered, numbers, some_passes, unless}
use Rattle.settle_floor.proofs.OpeningFacts.{at_hand}
use Rattle.day_chain.specs.declared.joining.DayBefore.{DayBefore}
use Rattle.day_chain.specs.declared.joining.JoinFault.{JoinFault}
use Rattle.day_chain.specs.declared.joining.JoinFault.TheVariants as join_faults
use Rattle.day_chain.specs.Chains.{DiffersBy, HasSameAccounts, HasSameSystems, Joins, terms}
use Rattle.day_chain.specs.DayEnds.{carried}
use Rattle.day_chain.specs.Joining.{differs, first_difference, join_fault, other_opening, same_option, same_system, same_systems, same_terms, setup_difference, setup_of_two}
use Rattle.day_chain.specs.Ledgers.{carried_by, IsLeftBy}
use Rattle.day_chain.specs.NextDay.{is_next}
use Rattle.day_chain.proofs.Alike.{all_terms, lists, map_id, options, systems}
use Rattle.day_chain.proofs.NextFacts.{is_next_of, next_is_open}

-- ---- the first number that passes

pub find_none : (p : ℕ → Bool) (s n : ℕ) → find p (range_with_len s n) ≡ None → (k : ℕ) → s ≤ k → k < s + n → p k ≡ false
find_none p s zero h k low high = absurd (omega arith)
find_none p s (suc n) h k low high = go (λ q l m. find_none p (s + 1) n q k l m) (p s) refl (cases_eq k s)
  where
    go : (find p (range_with_len (s + 1) n) ≡ None → s + 1 ≤ k → k < s + 1 + n → p k ≡ false) → (b : Bool) → p s ≡ b → (k ≡ s) ⊎ (k ≡ s → ⊥) → p k ≡ false
    go more true e at = let f : Some s ≡ None = ap (λ b. cond b (Some s) (find p (range_with_len (s + 1) n))) (sym e) ∙ h in absurd (cc)
    go more false e (inl here) = ap p here ∙ e
    go more false e (inr there) = more (ap (λ b. cond b (Some s) (find p (range_with_len (s + 1) n))) (sym e) ∙ h) (omega (arith, there)) (omega arith)

abbrev pub IsFirst : (ℕ → Bool) → ℕ → ℕ → ℕ → Type 0
IsFirst p s n a = (s ≤ a) × (a < s + n) × (p a ≡ true) × ((b : ℕ) → s ≤ b → b < a → p b ≡ false)

pub find_first : (p : ℕ → Bool) (s n a : ℕ) → find p (range_with_len s n) ≡ Some a → IsFirst p s n a
find_first p s zero a h = absurd (cc)
find_first p s (suc n) a h = go (λ q. find_first p (s + 1) n a q) (p s) refl
  where
    below : p s ≡ false → IsFirst p (s + 1) n a → (b : ℕ) → s ≤ b → b < a → (b ≡ s) ⊎ (b ≡ s → ⊥) → p b ≡ false
    below e r b low high (inl here) = ap p here ∙ e
    below e r b low high (inr there) = r.3 b (omega (arith, there)) high

    go : (find p (range_with_len (s + 1) n) ≡ Some a → IsFirst p (s + 1) n a) → (b : Bool) → p s ≡ b → IsFirst p s (suc n) a
    go more true e =
        let f : Some s ≡ Some a = ap (λ b. cond b (Some s) (find p (range_with_len (s + 1) n))) (sym e) ∙ h in
        let at : s ≡ a = cc in
        (omega (arith, at), omega (arith, at), ap p (sym at) ∙ e, λ b low high. absurd (omega (arith, at, low, high)))
    go more false e =
        let r = more (ap (λ b. cond b (Some s) (find p (range_with_len (s + 1) n))) (sym e) ∙ h) in
        (omega (arith, r.0), omega (arith, r.1), r.2, λ b low high. below e r b low high (cases_eq b s))

pub find_same : (p q : ℕ → Bool) (s n : ℕ) → ((k : ℕ) → s ≤ k → k < s + n → p k ≡ q k) → find p (range_with_len s n) ≡ find q (range_with_len s n)
find_same p q s zero h = refl
find_same p q s (suc n) h = λ i. cond (h s (omega arith) (omega arith) i) (Some s) (find_same p q (s + 1) n (λ k low high. h k (omega arith) (omega arith)) i)

-- ---- systems and accounts

not_true : (b : Bool) → not b ≡ false → b ≡ true
not_true true h = refl
not_true false h = sym h

same_there : (xs ys : List AccountRecord) (a : ℕ) → differs xs ys a ≡ false → option_map terms (numbered xs a) ≡ option_map terms (numbered ys a)
same_there xs ys a h = (options same_terms terms all_terms (numbered xs a) (numbered ys a)).0 (not_true _ h)

other_there : (xs ys : List AccountRecord) (a : ℕ) → differs xs ys a ≡ true → option_map terms (numbered ys a) ≡ option_map terms (numbered xs a) → ⊥
other_there xs ys a h e =
    let same = (options same_terms terms all_terms (numbered xs a) (numbered ys a)).1 (sym e) in
    false≢true (ap not (sym same) ∙ h)

inside : (m n i : ℕ) → (i < max m n) ⊎ ((m ≤ i) × (n ≤ i))
inside m n i = grind arith

pub same_accounts : (xs ys : List AccountRecord) → first_difference xs ys ≡ None → map terms ys ≡ map terms xs
same_accounts xs ys h = sym (lists terms xs ys (λ i. at i (inside (length xs) (length ys) i)))
  where
    at : (i : ℕ) → (i < max (length xs) (length ys)) ⊎ ((length xs ≤ i) × (length ys ≤ i)) → option_map terms (slice_get xs i) ≡ option_map terms (slice_get ys i)
    at i (inl l) = same_there xs ys (suc i) (find_none (differs xs ys) 1 (max (length xs) (length ys)) h (suc i) (omega arith) (omega arith))
    at i (inr p) = ap (option_map terms) (slice_get_past xs i p.0) ∙ sym (ap (option_map terms) (slice_get_past ys i p.1))

pub same_count : (xs ys : List AccountRecord) → map terms ys ≡ map terms xs → length ys ≡ length xs
same_count xs ys e = sym (length-map ys terms) ∙ ap length e ∙ length-map xs terms

systems_alike : (xs ys : List SystemRecord) → same_systems xs ys ≡ true → ys ≡ xs
systems_alike xs ys h =
    let a = and_parts (nat_eq (length xs) (length ys)) _ h in
    let long : length xs ≡ length ys = eqb-true (length xs) (length ys) a.0 in
    sym (sym (map_id xs) ∙ lists (λ r. r) xs ys (λ i. at long a.1 i (inside (length xs) (length ys) i)) ∙ map_id ys)
  where
    at : length xs ≡ length ys → list_all (λ s. same_option same_system (numbered xs s) (numbered ys s)) (numbers ys) ≡ true → (i : ℕ) →
        (i < max (length xs) (length ys)) ⊎ ((length xs ≤ i) × (length ys ≤ i)) → option_map (λ (r : SystemRecord). r) (slice_get xs i) ≡ option_map (λ (r : SystemRecord). r) (slice_get ys i)
    at long all i (inl l) = (options same_system (λ r. r) systems (slice_get xs i) (slice_get ys i)).0 (all-at (λ s. same_option same_system (numbered xs s) (numbered ys s)) 1 (length ys) (suc i) all (omega arith) (omega (arith, long, l)))
    at long all i (inr p) = ap (option_map (λ (r : SystemRecord). r)) (slice_get_past xs i p.0) ∙ sym (ap (option_map (λ (r : SystemRecord). r)) (slice_get_past ys i p.1))

own_system : (o : Option SystemRecord) → same_option same_system o o ≡ true
own_system o = (options same_system (λ r. r) systems o o).1 refl

systems_differ : (xs ys : List SystemRecord) → same_systems xs ys ≡ false → ys ≡ xs → ⊥
systems_differ xs ys h e =
    false≢true (sym h ∙ ap (same_systems xs) e ∙ and_from _ _ (eq-eqb (length xs) (length xs) refl) (all-from (λ s. same_option same_system (numbered xs s) (numbered xs s)) 1 (length xs) (λ k low high. own_system (numbered xs k))))

-- ---- the rows of the table

rows : Bool → Option ℕ → Option ℕ → Option JoinFault
rows next setup open' = first_some (unless next join_faults.Gap ∷ option_map join_faults.Setup setup ∷ option_map join_faults.Open open' ∷ [])

rows_none : (b : Bool) (s o : Option ℕ) → rows b s o ≡ None → (b ≡ true) × (s ≡ None) × (o ≡ None)
unfolding rows
rows_none true None None h = (refl, refl, refl)
rows_none true None (Some a) h = absurd (cc)
rows_none true (Some a) o h = absurd (cc)
rows_none false s o h = absurd (cc)

abbrev IsRow : Bool → Option ℕ → Option ℕ → JoinFault → Type 0
IsRow b s o f =
    ((b ≡ false) × (f ≡ join_faults.Gap))
    ⊎ (((b ≡ true) × (a : ℕ) × (s ≡ Some a) × (f ≡ join_faults.Setup a))
    ⊎ ((b ≡ true) × (s ≡ None) × (a : ℕ) × (o ≡ Some a) × (f ≡ join_faults.Open a)))

rows_some : (b : Bool) (s o : Option ℕ) (f : JoinFault) → rows b s o ≡ Some f → IsRow b s o f
unfolding rows
rows_some true None None f h = absurd (cc)
rows_some true None (Some a) f h = inr (inr (refl, refl, a, refl, cc))
rows_some true (Some a) o f h = inr (inl (refl, a, refl, cc))
rows_some false s o f h = inl (refl, cc)

as_rows : (before later : Day) → join_fault before later ≡ rows (is_next before.date later.date) (setup_difference before later) (other_opening before later)
unfolding join_fault rows
as_rows before later = refl

-- ---- what the code finds

pub fault_gap : (last day : Day) → false ≡ is_next last.date day.date → Some join_faults.Gap ≡ join_fault last day
unfolding join_fault
fault_gap last day e = ap (λ b. first_some (unless b join_faults.Gap ∷ option_map join_faults.Setup (setup_difference last day) ∷ option_map join_faults.Open (other_opening last day) ∷ [])) e

pub fault_setup : (last day : Day) (a : ℕ) → true ≡ is_next last.date day.date → Some a ≡ setup_difference last day → Some (join_faults.Setup a) ≡ join_fault last day
unfolding rows
fault_setup last day a e s = (λ i. rows (e i) (s i) (other_opening last day)) ∙ sym (as_rows last day)

open_row : (o : Option ℕ) → option_map join_faults.Open o ≡ rows true None o
unfolding rows
open_row None = refl
open_row (Some a) = refl

pub fault_open : (last day : Day) (o : Option ℕ) → true ≡ is_next last.date day.date → None ≡ setup_difference last day → o ≡ other_opening last day → option_map join_faults.Open o ≡ join_fault last day
fault_open last day o e s h = open_row o ∙ (λ i. rows (e i) (s i) (h i)) ∙ sym (as_rows last day)

setup_parts : (b : Bool) (d : Option ℕ) → (if b then d else Some 0) ≡ None → (b ≡ true) × (d ≡ None)
setup_parts true d h = (refl, h)
setup_parts false d h = absurd (cc)

pub setup_same : (before later : Day) → setup_difference before later ≡ None → HasSameSystems before later × HasSameAccounts before later
setup_same before later h =
    let p = setup_parts (same_systems before.systems later.systems) (first_difference before.accounts later.accounts) h in
    (systems_alike before.systems later.systems p.0, same_accounts before.accounts later.accounts p.1)

-- ---- openings

held_of : (o : Option ℕ) → is_some o ≡ true → (held : ℕ) × (o ≡ Some held)
held_of None h = absurd (false≢true h)
held_of (Some x) h = (x, refl)

-- what the code takes for what the day before left is that
pub carried_is : (last : Day) (before : DayBefore) (a : ℕ) → IsLeftBy last before → 1 ≤ a → a ≤ length last.accounts → carried_by before a ≡ carried last a
carried_is last before a left low high =
    let h = held_of (numbered before.till a) (at_hand last before.till a left.all low high) in
    let held : unwrap_or (numbered before.till a) 0 ≡ h.0 = ap (λ o. unwrap_or o 0) h.1 in
    (λ i. if some_passes (λ r. is_technical r.kind) (numbered (left.accounts i) a) then 0 else held i)
    ∙ ap (λ x. if some_passes (λ r. is_technical r.kind) (numbered last.accounts a) then 0 else x) (left.kept a h.0 h.1)

pub openings_by : (last day : Day) (before : DayBefore) → IsLeftBy last before → None ≡ setup_difference last day → find (λ a. not (nat_eq (opening day a) (carried_by before a))) (account_numbers day) ≡ other_opening last day
openings_by last day before left same =
    let accounts = (setup_same last day (sym same)).1 in
    let count = same_count last.accounts day.accounts accounts in
    find_same (λ a. not (nat_eq (opening day a) (carried_by before a))) (λ a. not (nat_eq (opening day a) (carried last a))) 1 (length day.accounts) (λ a low high. ap (λ x. not (nat_eq (opening day a) x)) (carried_is last before a left low (omega (arith, count, high))))

-- ---- in words

pub joins : (before later : Day) → join_fault before later ≡ None → Joins before later
joins before later h =
    let r = rows_none (is_next before.date later.date) (setup_difference before later) (other_opening before later) (sym (as_rows before later) ∙ h) in
    let s = setup_same before later r.1 in
    record {
      next = next_is_open before.date later.date r.0;
      systems = s.0;
      accounts = s.1;
      openings = λ a low high. eqb-true (opening later a) (carried before a) (not_true _ (find_none (λ b. not (nat_eq (opening later b) (carried before b))) 1 (length later.accounts) r.2 a low (omega (arith, high))));
    }

setup_some : (b : Bool) (d : Option ℕ) (a : ℕ) → (if b then d else Some 0) ≡ Some a → ((b ≡ false) × (a ≡ 0)) ⊎ ((b ≡ true) × (d ≡ Some a))
setup_some true d a h = inr (refl, h)
setup_some false d a h = inl (refl, cc)

gap : (before later : Day) → is_next before.date later.date ≡ false → DiffersBy before later join_faults.Gap
gap before later e = λ n. false≢true (sym e ∙ is_next_of before.date later.date n)

setup : (before later : Day) (a : ℕ) → is_next before.date later.date ≡ true → setup_difference before later ≡ Some a → DiffersBy before later (join_faults.Setup a)
setup before later zero e h = (next_is_open before.date later.date e, go (setup_some (same_systems before.systems later.systems) (first_difference before.accounts later.accounts) 0 h))
  where
    go : ((same_systems before.systems later.systems ≡ false) × (zero ≡ 0)) ⊎ ((same_systems before.systems later.systems ≡ true) × (first_difference before.accounts later.accounts ≡ Some zero)) → HasSameSystems before later → ⊥
    go (inl p) = systems_differ before.systems later.systems p.0
    go (inr p) = λ s. absurd (let f = find_first (differs before.accounts later.accounts) 1 (max (length before.accounts) (length later.accounts)) 0 p.1 in omega (arith, f.0))
setup before later (suc a) e h = go (setup_some (same_systems before.systems later.systems) (first_difference before.accounts later.accounts) (suc a) h)
  where
    go : ((same_systems before.systems later.systems ≡ false) × (suc a ≡ 0)) ⊎ ((same_systems before.systems later.systems ≡ true) × (first_difference before.accounts later.accounts ≡ Some (suc a))) → DiffersBy before later (join_faults.Setup (suc a))
    go (inl p) = absurd (omega (arith, p.1))
    go (inr p) =
        let f = find_first (differs before.accounts later.accounts) 1 (max (length before.accounts) (length later.accounts)) (suc a) p.1 in (
          next_is_open before.date later.date e,
          systems_alike before.systems later.systems p.0,
          record {
            from = omega arith;
            there = other_there before.accounts later.accounts (suc a) f.2;
            first = λ b low high d. d (sym (same_there before.accounts later.accounts b (f.3 b low high)));
          },
        )

opens : (before later : Day) (a : ℕ) → is_next before.date later.date ≡ true → setup_difference before later ≡ None → other_opening before later ≡ Some a → DiffersBy before later (join_faults.Open a)
opens before later a e s h =
    let f = find_first (λ b. not (nat_eq (opening later b) (carried before b))) 1 (length later.accounts) a h in
    let same = setup_same before later s in (
      next_is_open before.date later.date e,
      same.0,
      same.1,
      record {
        from = f.0;
        there = λ d. false≢true (ap not (sym (eq-eqb (opening later a) (carried before a) d)) ∙ f.2);
        first = λ b low high d. d (eqb-true (opening later b) (carried before b) (not_true _ (f.3 b low high)));
      },
    )

pub differs_by : (before later : Day) (f : JoinFault) → join_fault before later ≡ Some f → DiffersBy before later f
differs_by before later f h = go (rows_some (is_next before.date later.date) (setup_difference before later) (other_opening before later) f (sym (as_rows before later) ∙ h))
  where
    go : IsRow (is_next before.date later.date) (setup_difference before later) (other_opening before later) f → DiffersBy before later f
    go (inl p) = subst (DiffersBy before later) (sym p.1) (gap before later p.0)
    go (inr (inl p)) = subst (DiffersBy before later) (sym p.3) (setup before later p.1 p.0 p.2)
    go (inr (inr p)) = subst (DiffersBy before later) (sym p.4) (opens before later p.2 p.0 p.1 p.3)

pub same_setup : (last day : Day) (before : DayBefore) → IsLeftBy last before → setup_of_two before.accounts before.systems day.accounts day.systems ≡ setup_difference last day
same_setup last day before left = λ i. setup_of_two (left.accounts i) (left.systems i) day.accounts day.systems
