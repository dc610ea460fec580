-- After every line of a legal history the balances sum to the openings.
use Rattle.std.proofs.Common.{◌≡◌, ℕ, ◌+◌, ◌≤◌, List, [], ◌∷◌, refl, arith}
use Rattle.std.specs.Prelude.{sum_by}
use Rattle.batch_records.specs.DayRecord.{Day}
use Rattle.commit_journal.specs.declared.line.Move.{Move}
use Rattle.commit_journal.specs.Line.{History}
use Rattle.machine.specs.Records.Setup.{account_numbers, opening}
use Rattle.machine.specs.Telling.Balances.{credits, debits, credited, debited, balance}
use Rattle.machine.specs.Legal.{IsLegal}
use Rattle.machine.specs.Laws.{IsConserved, IsNeverBelowZero}
use Rattle.settlement_laws.proofs.Base.Made.{made_facts}
use Rattle.settlement_laws.proofs.Balances.CoveredMoves.{IsCovered, amounts, never_covered}
use Rattle.settlement_laws.proofs.Base.Numbers.{sum_add, sum_same, sum_nothing, at_number, sum_at}
use Rattle.settlement_laws.proofs.Balances.MovesOfTheDay.{IsAccount, MovesInRange, SubsHaveDca, line_in_range}

one_account : (day : Day) (a x : ℕ) → IsAccount day a → sum_by (at_number a x) (account_numbers day) ≡ x
one_account day a x h = sum_at a x 1 h.0 day.accounts h.1 h.2

pub credits_sum : (day : Day) (moves : List Move) → MovesInRange day moves → sum_by (λ a. credits a moves) (account_numbers day) ≡ amounts moves
credits_sum day [] h = sum_nothing (account_numbers day)
credits_sum day (m ∷ moves) h =
    let a : sum_by (λ a. at_number m.credit m.amount a + credits a moves) (account_numbers day) ≡ sum_by (at_number m.credit m.amount) (account_numbers day) + sum_by (λ a. credits a moves) (account_numbers day) = sum_add (at_number m.credit m.amount) (λ a. credits a moves) (account_numbers day) in
    let b : sum_by (at_number m.credit m.amount) (account_numbers day) ≡ m.amount = one_account day m.credit m.amount h.0.1 in
    let c : sum_by (λ a. credits a moves) (account_numbers day) ≡ amounts moves = credits_sum day moves h.1 in
    omega arith

pub debits_sum : (day : Day) (moves : List Move) → MovesInRange day moves → sum_by (λ a. debits a moves) (account_numbers day) ≡ amounts moves
debits_sum day [] h = sum_nothing (account_numbers day)
debits_sum day (m ∷ moves) h =
    let a : sum_by (λ a. at_number m.debit m.amount a + debits a moves) (account_numbers day) ≡ sum_by (at_number m.debit m.amount) (account_numbers day) + sum_by (λ a. debits a moves) (account_numbers day) = sum_add (at_number m.debit m.amount) (λ a. debits a moves) (account_numbers day) in
    let b : sum_by (at_number m.debit m.amount) (account_numbers day) ≡ m.amount = one_account day m.debit m.amount h.0.0 in
    let c : sum_by (λ a. debits a moves) (account_numbers day) ≡ amounts moves = debits_sum day moves h.1 in
    omega arith

-- what was credited is what was debited
pub balanced : (day : Day) (J : History) → SubsHaveDca day → IsLegal day J → sum_by (credited J) (account_numbers day) ≡ sum_by (debited J) (account_numbers day)
unfolding credited debited
balanced day [] subs legal = sum_same (credited []) (debited []) (λ a. refl) (account_numbers day)
balanced day (l ∷ J) subs legal =
    let before : sum_by (credited J) (account_numbers day) ≡ sum_by (debited J) (account_numbers day) = balanced day J subs legal.0 in
    let range : MovesInRange day l.moves = line_in_range l.head.kind day J l.head.msg l.head.entry l.head.code l.moves subs legal.0 (made_facts day J l legal.1).1 in
    let c : sum_by (credited (l ∷ J)) (account_numbers day) ≡ sum_by (λ a. credited J a + credits a l.moves) (account_numbers day) = sum_same (credited (l ∷ J)) (λ a. credited J a + credits a l.moves) (λ a. refl) (account_numbers day) in
    let d : sum_by (debited (l ∷ J)) (account_numbers day) ≡ sum_by (λ a. debited J a + debits a l.moves) (account_numbers day) = sum_same (debited (l ∷ J)) (λ a. debited J a + debits a l.moves) (λ a. refl) (account_numbers day) in
    let e : sum_by (λ a. credited J a + credits a l.moves) (account_numbers day) ≡ sum_by (credited J) (account_numbers day) + sum_by (λ a. credits a l.moves) (account_numbers day) = sum_add (credited J) (λ a. credits a l.moves) (account_numbers day) in
    let f : sum_by (λ a. debited J a + debits a l.moves) (account_numbers day) ≡ sum_by (debited J) (account_numbers day) + sum_by (λ a. debits a l.moves) (account_numbers day) = sum_add (debited J) (λ a. debits a l.moves) (account_numbers day) in
    let g : sum_by (λ a. credits a l.moves) (account_numbers day) ≡ amounts l.moves = credits_sum day l.moves range in
    let h : sum_by (λ a. debits a l.moves) (account_numbers day) ≡ amounts l.moves = debits_sum day l.moves range in
    omega arith

pub conserved : (day : Day) (J : History) → SubsHaveDca day → IsLegal day J → IsNeverBelowZero day J → IsConserved day J
conserved day J subs legal never =
    let covered : IsCovered day J = never_covered day J never in
    let even : sum_by (credited J) (account_numbers day) ≡ sum_by (debited J) (account_numbers day) = balanced day J subs legal in
    let a : sum_by (λ a. balance day J a + debited J a) (account_numbers day) ≡ sum_by (λ a. opening day a + credited J a) (account_numbers day) = sum_same (λ a. balance day J a + debited J a) (λ a. opening day a + credited J a) (λ a. exact a (covered a)) (account_numbers day) in
    let b : sum_by (λ a. balance day J a + debited J a) (account_numbers day) ≡ sum_by (balance day J) (account_numbers day) + sum_by (debited J) (account_numbers day) = sum_add (balance day J) (debited J) (account_numbers day) in
    let c : sum_by (λ a. opening day a + credited J a) (account_numbers day) ≡ sum_by (opening day) (account_numbers day) + sum_by (credited J) (account_numbers day) = sum_add (opening day) (credited J) (account_numbers day) in
    omega arith
  where
    exact : (a : ℕ) → debited J a ≤ opening day a + credited J a → balance day J a + debited J a ≡ opening day a + credited J a
    exact a h = omega arith
