-- No legal line leaves an account below zero, where the reversals of A are backed.
use Rattle.std.proofs.Common.{◌≡◌, ℕ, ◌+◌, ◌≤◌, Bool, true, false, not, ◌&&◌, List, [], ◌∷◌, Option, Some, None, refl, sym, ap, subst, arith}
use Rattle.std.specs.Prelude.{is_some, nat_lt, map}
use Rattle.std.specs.List.{list_all}
use Rattle.std.proofs.lemmas.Bool.{ltb-false, leb-true, not-false, and_parts}
use Rattle.batch_records.specs.DayRecord.{Day}
use Rattle.batch_records.specs.declared.day.Entry.{Entry}
use Rattle.commit_journal.specs.declared.line.Move.{Move}
use Rattle.commit_journal.specs.declared.line.Code.{Code}
use Rattle.commit_journal.specs.declared.line.Code.TheVariants as line_codes
use Rattle.commit_journal.specs.declared.line.Kind.{Kind}
use Rattle.commit_journal.specs.declared.line.Kind.TheVariants as kinds
use Rattle.commit_journal.specs.Line.{History}
use Rattle.machine.specs.Words.{some_passes}
use Rattle.machine.specs.Records.Setup.{account_named}
use Rattle.machine.specs.Records.Messages.{Sort, BatchA, BatchB, BatchD, Liquidity, sort_of, entries, part, transfer, move_of, debit_account, technical_of, technical_account, fund_account, is_liquidity}
use Rattle.machine.specs.Records.Reserves.{kept, must_leave}
use Rattle.machine.specs.Telling.History.{is_ok}
use Rattle.machine.specs.Telling.Balances.{balance}
use Rattle.machine.specs.Stages.Intake.{intake_code, intake_moves, moves_as, transfer_moves, entry_fits, afforded_in_order}
use Rattle.machine.specs.Stages.Phases.{is_booked}
use Rattle.machine.specs.Making.Lines.{may_cover, moves_of_part, is_covered_part, reversal, cover_moves, cover_of, return_of, need_as, debit_entries_by, sweep_move}
use Rattle.machine.specs.Legal.{IsLegal}
use Rattle.machine.specs.Laws.{EachLine, StaysCovered, IsNeverBelowZero}
use Rattle.settlement_laws.proofs.Balances.BackedReversals.{ReversalsAreBacked}
use Rattle.settlement_laws.proofs.ProcedureB.SettledWhole.{all_stays}
use Rattle.settlement_laws.proofs.ProcedureB.CoveredWhole.{cover_stays}
use Rattle.settlement_laws.proofs.Base.Made.{Made, made_facts}
use Rattle.settlement_laws.proofs.Base.IntakeFacts.{IsPassed, passed_intake}
use Rattle.settlement_laws.proofs.Balances.CoveredMoves.{amounts, IsCovered, never_covered, from_one, one_stays, none_stays, amounts_of_map, all_from_map, turn_within, all_in_turn}
use Rattle.settlement_laws.proofs.ProcedureB.WholeMoves.{same_numbers}

-- an amount is there where it is there with what must stay
amount_there : (amount stays held : ℕ) → amount + stays ≤ held → amount ≤ held
amount_there amount stays held h = omega (arith, h)

-- ---- In

transfer_stays : (day : Day) (J : History) (e : Option Entry) → IsCovered day J → some_passes (λ e. nat_lt (balance day J (debit_account day e)) (e.amount + kept day (debit_account day e) false)) e ≡ false → StaysCovered day J (transfer_moves day e)
transfer_stays day J None base h = none_stays day J base
transfer_stays day J (Some e) base h = one_stays day J (move_of day e) base (amount_there e.amount (kept day (debit_account day e) false) (balance day J (debit_account day e)) (ltb-false (balance day J (debit_account day e)) (e.amount + kept day (debit_account day e) false) h))

d_from : (day : Day) (n : ℕ) (e : Entry) → entry_fits BatchD day n e ≡ true → (move_of day e).debit ≡ technical_account day n
d_from day n e h = same_numbers (account_named day e.debit) (technical_of day n) (and_parts _ _ h).0

d_stays : (day : Day) (J : History) (n : ℕ) → IsCovered day J → list_all (entry_fits BatchD day n) (entries day n) ≡ true →
    StaysCovered day J (map (move_of day) (afforded_in_order (balance day J (technical_account day n)) (entries day n)))
d_stays day J n base h =
    let t : ℕ = technical_account day n in
    from_one day J t _ base (all_in_turn (move_of day) t (entry_fits BatchD day n) (d_from day n) (balance day J t) (entries day n) h)
    (subst (λ x. x ≤ balance day J t) (sym (amounts_of_map (move_of day) (λ e. refl) (afforded_in_order (balance day J t) (entries day n)))) (turn_within (balance day J t) (entries day n)))

moves_stay : (s : Sort) (day : Day) (J : History) (n : ℕ) → IsCovered day J →
    (is_liquidity s && some_passes (λ e. nat_lt (balance day J (debit_account day e)) (e.amount + kept day (debit_account day e) false)) (transfer day n)) ≡ false →
    not (list_all (entry_fits s day n) (entries day n)) ≡ false → StaysCovered day J (moves_as s day J n)
moves_stay Liquidity day J n base h k = transfer_stays day J (transfer day n) base h
moves_stay BatchD day J n base h k = d_stays day J n base (not-false _ k)
moves_stay _ day J n base h k = none_stays day J base

intake_stays : (code : Code) (day : Day) (J : History) (n : ℕ) → IsCovered day J → (is_ok code ≡ true → IsPassed day J n) → StaysCovered day J (intake_moves day J n code)
intake_stays line_codes.Ok day J n base h = moves_stay (sort_of day n) day J n base (h refl).short_right (h refl).entries_right
intake_stays _ day J n base h = none_stays day J base

-- ---- Book, Sweep

part_stays : (day : Day) (J : History) (n : ℕ) (e : Option Entry) (free : Entry → Bool) → IsCovered day J → some_passes (λ e. free e && is_covered_part day J n e) e ≡ true → StaysCovered day J (moves_of_part day e)
part_stays day J n None free base h = cc
part_stays day J n (Some e) free base h = one_stays day J (move_of day e) base (amount_there e.amount (must_leave day n (debit_account day e)) (balance day J (debit_account day e)) (leb-true _ _ (and_parts _ _ h).1))

-- ---- Cover of A

cover_a_stays : (day : Day) (J : History) (n : ℕ) → IsCovered day J → need_as BatchA day J n ≤ balance day J (fund_account day n) → StaysCovered day J (cover_moves BatchA day J n)
cover_a_stays day J n base h =
    let es : List Entry = debit_entries_by day n (λ k. not (is_booked J n k)) in
    from_one day J (fund_account day n) _ base (all_from_map (cover_of day n) (fund_account day n) (λ e. refl) es)
    (subst (λ x. x ≤ balance day J (fund_account day n)) (sym (amounts_of_map (cover_of day n) (λ e. refl) es)) h)

-- ---- the other moves

cover_as_stays : (s : Sort) (day : Day) (J : History) (n : ℕ) → sort_of day n ≡ s → IsLegal day J → IsCovered day J → may_cover day J n ≡ true → need_as s day J n ≤ balance day J (fund_account day n) → StaysCovered day J (cover_moves s day J n)
cover_as_stays BatchA day J n e legal base m h = cover_a_stays day J n base h
cover_as_stays BatchB day J n e legal base m h = cover_stays day J n legal base e m
cover_as_stays _ day J n e legal base m h = none_stays day J base

reversal_stays : (s : Sort) (day : Day) (J : History) (n : ℕ) → sort_of day n ≡ s → IsCovered day J → (sort_of day n ≡ BatchA → amounts (reversal BatchA day J n) ≤ balance day J (technical_account day n)) → StaysCovered day J (reversal s day J n)
reversal_stays BatchA day J n e base h =
    let es : List Entry = debit_entries_by day n (is_booked J n) in
    from_one day J (technical_account day n) _ base (all_from_map (return_of day n) (technical_account day n) (λ e. refl) es) (h e)
reversal_stays _ day J n e base h = none_stays day J base

line_stays : (kind : Kind) (day : Day) (J : History) (n k : ℕ) (code : Code) (moves : List Move) → IsLegal day J → IsCovered day J → ReversalsAreBacked day J → Made kind day J n k code moves → StaysCovered day J moves
line_stays kinds.In day J n k code moves legal base b m = subst (StaysCovered day J) (sym m.2) (intake_stays (intake_code day J n) day J n base (passed_intake day J n))
line_stays kinds.Book day J n k code moves legal base b m = subst (StaysCovered day J) (sym m.2) (part_stays day J n (part day n k) _ base (and_parts _ _ m.0).1)
line_stays kinds.All day J n k code moves legal base b m = subst (StaysCovered day J) (sym m.2) (all_stays day J n legal base m.0)
line_stays kinds.Expire day J n k code moves legal base b m = subst (StaysCovered day J) (sym m.2) (reversal_stays (sort_of day n) day J n refl base (λ e. b.expired n e m.0))
line_stays kinds.Refuse day J n k code moves legal base b m = subst (StaysCovered day J) (sym m.2) (reversal_stays (sort_of day n) day J n refl base (λ e. b.refused n e (ap is_some m.0)))
line_stays kinds.Cover day J n k code moves legal base b m =
    subst (StaysCovered day J) (sym m.2) (cover_as_stays (sort_of day n) day J n refl legal base m.0 (leb-true _ _ (and_parts _ _ m.0).1))
line_stays kinds.Sweep day J n k code moves legal base b m = subst (StaysCovered day J) (sym m.2) (one_stays day J (sweep_move day J k) base (omega arith))
line_stays kinds.Ask day J n k code moves legal base b m = subst (StaysCovered day J) (sym m.2) (none_stays day J base)
line_stays kinds.Time day J n k code moves legal base b m = subst (StaysCovered day J) (sym m.2) (none_stays day J base)
line_stays kinds.End day J n k code moves legal base b m = subst (StaysCovered day J) (sym m.2) (none_stays day J base)

pub never_below_zero : (day : Day) (J : History) → IsLegal day J → EachLine (λ l before. ReversalsAreBacked day before) J → IsNeverBelowZero day J
never_below_zero day [] legal backed = tt
never_below_zero day (l ∷ J) legal backed =
    let before : IsNeverBelowZero day J = never_below_zero day J legal.0 backed.0 in
    (before, line_stays l.head.kind day J l.head.msg l.head.entry l.head.code l.moves legal.0 (never_covered day J before) backed.1 (made_facts day J l legal.1).1)
