-- Moves between accounts of the day bring nothing to a number that is no account's.
use Rattle.std.proofs.Common.{◌≡◌, ℕ, zero, suc, ◌≤◌, Bool, true, false, List, [], ◌∷◌, ◌++◌, refl, sym, ap, subst, arith, length, take, ◌⊎◌, inl, inr}
use Rattle.std.specs.Prelude.{nat_lt, nat_eq, if◌then◌else◌}
use Rattle.std.specs.Option.{option_map_or}
use Rattle.std.proofs.lemmas.Bool.{ltb-true, ltb-false, ne_eqb}
use Rattle.std.proofs.lemmas.Option.{slice_get_past}
use Rattle.batch_records.specs.DayRecord.{Day}
use Rattle.cash_amounts.specs.declared.records.AccountRecord.{AccountRecord}
use Rattle.commit_journal.specs.declared.line.Move.{Move}
use Rattle.commit_journal.specs.Line.{Line, History}
use Rattle.machine.specs.Records.Setup.{opening}
use Rattle.machine.specs.Telling.Balances.{credits, credited}
use Rattle.machine.specs.Legal.{IsLegal, moves_in_order}
use Rattle.settlement_laws.proofs.Base.Made.{made_facts}
use Rattle.settlement_laws.proofs.Balances.MovesOfTheDay.{IsAccount, MovesInRange, SubsHaveDca, line_in_range, append_in_range}
use Rattle.settlement_laws.proofs.EachLaw.OneLineLaws.{moves_more}

pub account_or_not : (day : Day) (a : ℕ) → IsAccount day a ⊎ (IsAccount day a → ⊥)
account_or_not day zero = inr (λ h. omega (arith, h.1))
account_or_not day (suc i) = here (nat_lt i (length day.accounts)) refl
  where
    here : (b : Bool) → nat_lt i (length day.accounts) ≡ b → IsAccount day (suc i) ⊎ (IsAccount day (suc i) → ⊥)
    here true e = inl (i, omega arith, ltb-true i (length day.accounts) e)
    here false e = let k : length day.accounts ≤ i = ltb-false i (length day.accounts) e in inr (λ h. omega (arith, k, h.1, h.2))

pub no_opening : (day : Day) (a : ℕ) → (IsAccount day a → ⊥) → opening day a ≡ 0
no_opening day zero h = refl
no_opening day (suc i) h = here (nat_lt i (length day.accounts)) refl
  where
    here : (b : Bool) → nat_lt i (length day.accounts) ≡ b → opening day (suc i) ≡ 0
    here true e = absurd (h (i, omega arith, ltb-true i (length day.accounts) e))
    here false e = ap (λ o. option_map_or (λ (r : AccountRecord). r.opening) o 0) (slice_get_past day.accounts i (ltb-false i (length day.accounts) e))

pub no_credits : (day : Day) (a : ℕ) (moves : List Move) → (IsAccount day a → ⊥) → MovesInRange day moves → credits a moves ≡ 0
no_credits day a [] h r = refl
no_credits day a (m ∷ moves) h r =
    let z : (if nat_eq m.credit a then m.amount else 0) ≡ 0 = ap (λ x. if x then m.amount else 0) (ne_eqb m.credit a (λ e. h (subst (IsAccount day) e r.0.1))) in
    let k : credits a moves ≡ 0 = no_credits day a moves h r.1 in
    omega arith

-- ---- all moves of a legal history

pub line_moves : (day : Day) (l : Line) (J : History) → SubsHaveDca day → IsLegal day (l ∷ J) → MovesInRange day l.moves
line_moves day l J subs legal = line_in_range l.head.kind day J l.head.msg l.head.entry l.head.code l.moves subs legal.0 (made_facts day J l legal.1).1

pub never_credited : (day : Day) (J : History) (a : ℕ) → SubsHaveDca day → IsLegal day J → (IsAccount day a → ⊥) → credited J a ≡ 0
unfolding credited
never_credited day [] a subs legal h = refl
never_credited day (l ∷ J) a subs legal h =
    let k : credited J a ≡ 0 = never_credited day J a subs legal.0 h in
    let c : credits a l.moves ≡ 0 = no_credits day a l.moves h (line_moves day l J subs legal) in
    omega arith

pub later_in_range : (day : Day) (old later : History) → SubsHaveDca day → IsLegal day (later ++ old) → MovesInRange day (moves_in_order later)
later_in_range day old [] subs legal = tt
later_in_range day old (l ∷ later) subs legal =
    subst (MovesInRange day) (sym (moves_more l later)) (append_in_range day (moves_in_order later) l.moves (later_in_range day old later subs legal.0) (line_moves day l (later ++ old) subs legal))

pub take_in_range : (day : Day) (i : ℕ) (moves : List Move) → MovesInRange day moves → MovesInRange day (take i moves)
take_in_range day zero moves r = tt
take_in_range day (suc i) [] r = tt
take_in_range day (suc i) (m ∷ moves) r = (r.0, take_in_range day i moves r.1)

pub old_is_legal : (day : Day) (old later : History) → IsLegal day (later ++ old) → IsLegal day old
old_is_legal day old [] legal = legal
old_is_legal day old (l ∷ later) legal = old_is_legal day old later legal.0
