-- On the way from an earlier history no balance is below zero or above 10^18, and after each line the balances sum to the openings.
use Rattle.std.proofs.Common.{◌≡◌, ℕ, zero, suc, ◌+◌, ◌≤◌, ◌^◌, true, List, [], ◌∷◌, ◌++◌, sym, ◌∙◌, ap, subst, arith, length, take, ◌⊎◌, inl, inr}
use Rattle.std.specs.Prelude.{sum_by}
use Rattle.std.proofs.lemmas.List.{take-append-le}
use Rattle.std.proofs.Math.Seq.{take-append-add}
use Rattle.batch_records.specs.DayRecord.{Day}
use Rattle.batch_records.specs.Sound.{is_sound}
use Rattle.commit_journal.specs.declared.line.Move.{Move}
use Rattle.commit_journal.specs.Line.{History}
use Rattle.machine.specs.Records.Setup.{account_numbers, opening}
use Rattle.machine.specs.Telling.Balances.{credits, debits, credited, debited, balance}
use Rattle.machine.specs.Legal.{IsLegal, moves_in_order}
use Rattle.machine.specs.Laws.{IsNeverBelowZero}
use Rattle.machine.specs.Laws.{IsConservedThroughout}
use Rattle.machine.specs.OtherLaws.{StaysInRange, BalancesCatchUp}
use Rattle.settlement_laws.proofs.Balances.CoveredMoves.{amounts, never_covered}
use Rattle.settlement_laws.proofs.Base.Numbers.{sum_add}
use Rattle.settlement_laws.proofs.ProcedureB.WholeIsCovered.{debits-append, credits-append, in_two}
use Rattle.settlement_laws.proofs.EachLaw.OneLineLaws.{moves_more, catches_up}
use Rattle.settlement_laws.proofs.Balances.MovesOfTheDay.{IsAccount, MovesInRange, SubsHaveDca}
use Rattle.settlement_laws.proofs.Balances.Conservation.{balanced, conserved, credits_sum, debits_sum}
use Rattle.settlement_laws.proofs.Base.Sound.{subs_have_dca}
use Rattle.settlement_laws.proofs.ProcedureA.NeverBelowZero.{never_below_zero}
use Rattle.settlement_laws.proofs.Balances.OneOfASum.{one_of_all, openings_within}
use Rattle.settlement_laws.proofs.Balances.Elsewhere.{account_or_not, no_opening, no_credits, never_credited, later_in_range, take_in_range, old_is_legal}

-- ---- after each line

conserved_each : (day : Day) (J : History) → SubsHaveDca day → IsLegal day J → IsNeverBelowZero day J → IsConservedThroughout day J
conserved_each day [] subs legal never = tt
conserved_each day (l ∷ J) subs legal never = (conserved_each day J subs legal.0 never.0, conserved day (l ∷ J) subs legal never)

pub conserved_throughout : (day : Day) (J : History) → is_sound day ≡ true → IsLegal day J → IsConservedThroughout day J
conserved_throughout day J sound legal = conserved_each day J (subs_have_dca day sound) legal (never_below_zero day J legal)

-- ---- not below zero on the way

no_moves : (a i d c o : ℕ) → d ≤ o + c → d + debits a (take i []) ≤ (o + c) + credits a (take i [])
no_moves a zero d c o h = omega arith
no_moves a (suc i) d c o h = omega arith

on_the_way : (day : Day) (old later : History) → IsNeverBelowZero day (later ++ old) → (a i : ℕ) →
    debited old a + debits a (take i (moves_in_order later)) ≤ (opening day a + credited old a) + credits a (take i (moves_in_order later))
on_the_way day old [] never a i = no_moves a i (debited old a) (credited old a) (opening day a) (never_covered day old never a)
on_the_way day old (l ∷ later) never a i =
    subst (λ ms. debited old a + debits a (take i ms) ≤ (opening day a + credited old a) + credits a (take i ms)) (sym (moves_more l later)) (here (in_two i (length before)) (on_the_way day old later never.0 a i))
  where
    before : List Move
    before = moves_in_order later

    here : (i ≤ length before) ⊎ ((j : ℕ) × (i ≡ length before + j)) → debited old a + debits a (take i before) ≤ (opening day a + credited old a) + credits a (take i before) →
        debited old a + debits a (take i (before ++ l.moves)) ≤ (opening day a + credited old a) + credits a (take i (before ++ l.moves))
    here (inl s) k = subst (λ ms. debited old a + debits a ms ≤ (opening day a + credited old a) + credits a ms) (sym (take-append-le i before l.moves s)) k
    here (inr s) k =
        subst (λ ms. debited old a + debits a ms ≤ (opening day a + credited old a) + credits a ms) (sym (ap (λ x. take x (before ++ l.moves)) s.1 ∙ take-append-add before l.moves s.0)) (
        let t : debited (later ++ old) a + debits a (take s.0 l.moves) ≤ (opening day a + credited (later ++ old) a) + credits a (take s.0 l.moves) = never.1 a s.0 in
        let u : (credited (later ++ old) a ≡ credited old a + credits a before) × (debited (later ++ old) a ≡ debited old a + debits a before) = catches_up day old later a in
        let d : debits a (before ++ take s.0 l.moves) ≡ debits a before + debits a (take s.0 l.moves) = debits-append a before (take s.0 l.moves) in
        let c : credits a (before ++ take s.0 l.moves) ≡ credits a before + credits a (take s.0 l.moves) = credits-append a before (take s.0 l.moves) in
        omega (arith, u.0, u.1))

-- ---- not above 10^18: a balance is at most their sum

within : (day : Day) (J : History) (moves : List Move) → SubsHaveDca day → is_sound day ≡ true → IsLegal day J → MovesInRange day moves →
    ((a : ℕ) → debited J a + debits a moves ≤ (opening day a + credited J a) + credits a moves) →
    (a : ℕ) → IsAccount day a → (opening day a + credited J a) + credits a moves ≤ 10 ^ 18 + (debited J a + debits a moves)
within day J moves subs sound legal range never a h =
    let one : ((opening day a + credited J a) + credits a moves) + sum_by (λ a. debited J a + debits a moves) (account_numbers day) ≤ (debited J a + debits a moves) + sum_by (λ a. (opening day a + credited J a) + credits a moves) (account_numbers day)
    = one_of_all (λ a. (opening day a + credited J a) + credits a moves) (λ a. debited J a + debits a moves) never a 1 h.0 day.accounts h.1 h.2 in
    let g : sum_by (λ a. debited J a + debits a moves) (account_numbers day) ≡ sum_by (debited J) (account_numbers day) + sum_by (λ a. debits a moves) (account_numbers day) = sum_add (debited J) (λ a. debits a moves) (account_numbers day) in
    let f : sum_by (λ a. (opening day a + credited J a) + credits a moves) (account_numbers day) ≡ sum_by (λ a. opening day a + credited J a) (account_numbers day) + sum_by (λ a. credits a moves) (account_numbers day) = sum_add (λ a. opening day a + credited J a) (λ a. credits a moves) (account_numbers day) in
    let e : sum_by (λ a. opening day a + credited J a) (account_numbers day) ≡ sum_by (opening day) (account_numbers day) + sum_by (credited J) (account_numbers day) = sum_add (opening day) (credited J) (account_numbers day) in
    let c : sum_by (λ a. credits a moves) (account_numbers day) ≡ amounts moves = credits_sum day moves range in
    let d : sum_by (λ a. debits a moves) (account_numbers day) ≡ amounts moves = debits_sum day moves range in
    let b : sum_by (credited J) (account_numbers day) ≡ sum_by (debited J) (account_numbers day) = balanced day J subs legal in
    let o : sum_by (opening day) (account_numbers day) ≤ 10 ^ 18 = openings_within day sound in
    omega arith

outside : (day : Day) (J : History) (moves : List Move) → SubsHaveDca day → IsLegal day J → MovesInRange day moves → (a : ℕ) → (IsAccount day a → ⊥) → (opening day a + credited J a) + credits a moves ≤ 10 ^ 18 + (debited J a + debits a moves)
outside day J moves subs legal range a h =
    let o : opening day a ≡ 0 = no_opening day a h in
    let c : credited J a ≡ 0 = never_credited day J a subs legal h in
    let m : credits a moves ≡ 0 = no_credits day a moves h range in
    omega arith

not_above : (day : Day) (J : History) (moves : List Move) → SubsHaveDca day → is_sound day ≡ true → IsLegal day J → MovesInRange day moves →
    ((a : ℕ) → debited J a + debits a moves ≤ (opening day a + credited J a) + credits a moves) →
    (a : ℕ) → (opening day a + credited J a) + credits a moves ≤ 10 ^ 18 + (debited J a + debits a moves)
not_above day J moves subs sound legal range never a = elim (account_or_not day a) [
  | inl h ↦ within day J moves subs sound legal range never a h
  | inr h ↦ outside day J moves subs legal range a h
]

pub stays_in_range : (day : Day) (old later : History) → is_sound day ≡ true → IsLegal day (later ++ old) → StaysInRange day old later
stays_in_range day old later sound legal a i =
    let never : IsNeverBelowZero day (later ++ old) = never_below_zero day (later ++ old) legal in
    let subs : SubsHaveDca day = subs_have_dca day sound in (
      on_the_way day old later never a i,
      not_above day old (take i (moves_in_order later)) subs sound (old_is_legal day old later legal) (take_in_range day i (moves_in_order later) (later_in_range day old later subs legal)) (λ b. on_the_way day old later never b i) a,
    )

-- no balance of a legal history is above 10^18
pub balance_within : (day : Day) (J : History) → is_sound day ≡ true → IsLegal day J → (a : ℕ) → balance day J a ≤ 10 ^ 18
balance_within day J sound legal a =
    let h : (opening day a + credited J a) + credits a (take 0 (moves_in_order [])) ≤ 10 ^ 18 + (debited J a + debits a (take 0 (moves_in_order []))) = (stays_in_range day J [] sound legal a 0).1 in
    omega arith

pub balances_catch_up : (day : Day) (old later : History) → IsLegal day (later ++ old) → BalancesCatchUp day old later
balances_catch_up day old later legal a =
    let never : IsNeverBelowZero day (later ++ old) = never_below_zero day (later ++ old) legal in
    let u : (credited (later ++ old) a ≡ credited old a + credits a (moves_in_order later)) × (debited (later ++ old) a ≡ debited old a + debits a (moves_in_order later)) = catches_up day old later a in
    let o : debited old a + debits a (take 0 (moves_in_order later)) ≤ (opening day a + credited old a) + credits a (take 0 (moves_in_order later)) = on_the_way day old later never a 0 in
    let n : debited (later ++ old) a + debits a (take 0 (moves_in_order [])) ≤ (opening day a + credited (later ++ old) a) + credits a (take 0 (moves_in_order [])) = on_the_way day (later ++ old) [] never a 0 in
    let c = u.0 in
    let d = u.1 in
    omega arith
