-- What the members of a row hold after one more line.
use Rattle.std.proofs.Common.{◌≡◌, ℕ, ◌+◌, ◌*◌, ◌^◌, ◌≤◌, ◌<◌, true, List, [], ◌∷◌, length, refl, sym, arith, subst}
use Rattle.std.specs.Prelude.{sum_by}
use Rattle.std.proofs.lemmas.List.Sums.{sum_by-cons}
use Rattle.batch_records.specs.DayRecord.{Day}
use Rattle.batch_records.specs.Sound.{is_sound}
use Rattle.commit_journal.specs.declared.line.Move.{Move}
use Rattle.commit_journal.specs.Line.{Line, History}
use Rattle.machine.specs.Records.Setup.{opening}
use Rattle.machine.specs.Telling.Balances.{balance, credited, credits, debited, debits}
use Rattle.machine.specs.Orders.Bounds
use Rattle.machine.specs.Orders.Bounds.{most_moves, move_limit}
use Rattle.machine.specs.Legal.{IsLegal}
use Rattle.settlement_laws.proofs.DayEnd.MoveBound.{moved-bound}
use Rattle.settlement_laws.proofs.Base.SoundParts.{few_moves}
use Rattle.settlement_laws.proofs.Balances.CoveredMoves.{never_covered}
use Rattle.settlement_laws.proofs.ProcedureA.NeverBelowZero.{never_below_zero}
use Rattle.settlement_laws.proofs.Balances.StaysInRange.{balance_within}
use Rattle.day_page.specs.Courses.{total}
use Rattle.day_page.specs.Running.{came_to, credit_of, debit_of, left_from}

pub is_credits : (a : ℕ) (ms : List Move) → sum_by (credit_of a) ms ≡ credits a ms
is_credits a [] = refl
is_credits a (m ∷ ms) = let c : sum_by (credit_of a) (m ∷ ms) ≡ credit_of a m + sum_by (credit_of a) ms = sum_by-cons (credit_of a) m ms in let h : sum_by (credit_of a) ms ≡ credits a ms = is_credits a ms in omega (arith, c, h)

pub is_debits : (a : ℕ) (ms : List Move) → sum_by (debit_of a) ms ≡ debits a ms
is_debits a [] = refl
is_debits a (m ∷ ms) = let c : sum_by (debit_of a) (m ∷ ms) ≡ debit_of a m + sum_by (debit_of a) ms = sum_by-cons (debit_of a) m ms in let h : sum_by (debit_of a) ms ≡ debits a ms = is_debits a ms in omega (arith, c, h)

-- the balance after a line and what left are the balance before it and what came
pub one_after : (day : Day) (l : Line) (J : History) (a : ℕ) → IsLegal day (l ∷ J) → balance day (l ∷ J) a + left_from l.moves a ≡ balance day J a + came_to l.moves a
unfolding credited debited came_to left_from
one_after day l J a legal =
    let before : debited J a ≤ opening day a + credited J a = never_covered day J (never_below_zero day J legal.0) a in
    let after : debited J a + debits a l.moves ≤ opening day a + (credited J a + credits a l.moves) = never_covered day (l ∷ J) (never_below_zero day (l ∷ J) legal) a in
    let c : sum_by (credit_of a) l.moves ≡ credits a l.moves = is_credits a l.moves in
    let d : sum_by (debit_of a) l.moves ≡ debits a l.moves = is_debits a l.moves in
    omega (arith, before, after, c, d)

pub total_after : (day : Day) (l : Line) (J : History) (members : List ℕ) → IsLegal day (l ∷ J) →
    total day members (l ∷ J) + sum_by (left_from l.moves) members ≡ total day members J + sum_by (came_to l.moves) members
total_after day l J [] legal = refl
total_after day l J (a ∷ rest) legal =
    let one : balance day (l ∷ J) a + left_from l.moves a ≡ balance day J a + came_to l.moves a = one_after day l J a legal in
    let others : total day rest (l ∷ J) + sum_by (left_from l.moves) rest ≡ total day rest J + sum_by (came_to l.moves) rest = total_after day l J rest legal in
    let p : total day (a ∷ rest) (l ∷ J) ≡ balance day (l ∷ J) a + total day rest (l ∷ J) = sum_by-cons (balance day (l ∷ J)) a rest in
    let q : total day (a ∷ rest) J ≡ balance day J a + total day rest J = sum_by-cons (balance day J) a rest in
    let r : sum_by (left_from l.moves) (a ∷ rest) ≡ left_from l.moves a + sum_by (left_from l.moves) rest = sum_by-cons (left_from l.moves) a rest in
    let s : sum_by (came_to l.moves) (a ∷ rest) ≡ came_to l.moves a + sum_by (came_to l.moves) rest = sum_by-cons (came_to l.moves) a rest in
    omega (arith, one, others, p, q, r, s)

pub total_small : (day : Day) (J : History) (members : List ℕ) → is_sound day ≡ true → IsLegal day J → total day members J ≤ 10 ^ 18 * length members
total_small day J [] sound legal = omega arith
total_small day J (a ∷ rest) sound legal =
    let p : total day (a ∷ rest) J ≡ balance day J a + total day rest J = sum_by-cons (balance day J) a rest in
    let q : balance day J a ≤ 10 ^ 18 = balance_within day J sound legal a in
    let r : total day rest J ≤ 10 ^ 18 * length rest = total_small day J rest sound legal in
    omega (arith, p, q, r)

-- of lines that are this line and those before it
pub moved : (day : Day) (l : Line) (later J : History) (members : List ℕ) → IsLegal day later → later ≡ l ∷ J →
    total day members later + sum_by (left_from l.moves) members ≡ total day members J + sum_by (came_to l.moves) members
moved day l later J members legal e =
    subst (λ (H : History). total day members H + sum_by (left_from l.moves) members ≡ total day members J + sum_by (came_to l.moves) members) (sym e) (total_after day l J members (subst (IsLegal day) e legal))

-- the moves of a line are few
pub few_moved : (day : Day) (l : Line) (later J : History) → is_sound day ≡ true → IsLegal day later → later ≡ l ∷ J → length l.moves ≤ move_limit
few_moved day l later J sound legal e =
    let a : Bounds.moved (l ∷ J) ≤ most_moves day = moved-bound day sound (l ∷ J) (subst (IsLegal day) e legal) in
    let b : most_moves day < move_limit = few_moves day sound in
    omega (arith, a, b)
