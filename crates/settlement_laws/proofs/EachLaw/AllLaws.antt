-- The laws of every legal history of a sound day, in one record.
use Rattle.std.proofs.Common.{◌≡◌, ◌≤◌, true, arith}
use Rattle.std.specs.Prelude.{length}
use Rattle.batch_records.specs.DayRecord.{Day}
use Rattle.batch_records.specs.Sound.{is_sound}
use Rattle.commit_journal.specs.Line.{History}
use Rattle.machine.specs.Legal.{IsLegal}
use Rattle.machine.specs.Laws.{NothingIsLeft, GoesOn}
use Rattle.machine.specs.OtherLaws.{EveryLegalHistoryKeepsTheLaws}
use Rattle.settlement_laws.proofs.ProcedureA.NeverBelowZero.{never_below_zero}
use Rattle.settlement_laws.proofs.Balances.StaysInRange.{conserved_throughout}
use Rattle.settlement_laws.proofs.EachLaw.OneLineLaws.{credits_follow_debits, repeats_do_nothing}
use Rattle.settlement_laws.proofs.ProcedureB.WholeOrNothing.{whole_or_nothing}
use Rattle.settlement_laws.proofs.DayEnd.NothingIsDue.{nothing_is_due}
use Rattle.settlement_laws.proofs.DayEnd.AllIsDone.{all_is_done}
use Rattle.settlement_laws.proofs.Balances.MessageMoves.{closed_cancels}
use Rattle.settlement_laws.proofs.ProcedureB.ClosedMovesNothing.{closed_moves_nothing}
use Rattle.settlement_laws.proofs.DayEnd.EntriesDone.{entries_settle_once}
use Rattle.settlement_laws.proofs.EachLaw.OnceAndInOrder.{messages_in_order, booked_at_most_once}
use Rattle.settlement_laws.proofs.EachLaw.WithinLimits.{moved_as_stated}
use Rattle.settlement_laws.proofs.ProcedureD.MovesInTurn.{batches_of_d_move_in_turn}
use Rattle.settlement_laws.proofs.EachLaw.OnlyAcceptedGoOn.{only_accepted_go_on}
use Rattle.settlement_laws.proofs.EachLaw.ObjectionsHaveForce.{objections_have_force}
use Rattle.settlement_laws.proofs.EachLaw.FundPaysOnYes.{fund_pays_on_yes}
use Rattle.settlement_laws.proofs.EachLaw.QueueIsInOrder.{queue_is_in_order}
use Rattle.settlement_laws.proofs.DayEnd.SubsGiveBack.{subs_give_back}
use Rattle.settlement_laws.proofs.EachLaw.EndsInItsTime.{ends_in_its_time}
use Rattle.settlement_laws.proofs.DayEnd.TimeWaits.{time_waits}
use Rattle.settlement_laws.proofs.EachLaw.TakenAsDue.{taken_as_due, nothing_follows_the_end}
use Rattle.machine.specs.Orders.Bounds.{most_lines, most_moves, moved}
use Rattle.settlement_laws.proofs.Base.SoundParts.{lines_fit, moves_fit}
use Rattle.settlement_laws.proofs.DayEnd.LineBound.{length-bound}
use Rattle.settlement_laws.proofs.DayEnd.MoveBound.{moved-bound}
use Rattle.settlement_laws.proofs.DayEnd.Progress.{always_goes_on}

pub nothing_is_left : (day : Day) (J : History) → is_sound day ≡ true → IsLegal day J → NothingIsLeft day J
nothing_is_left day J sound legal = (nothing_is_due day J legal, all_is_done day J sound legal, closed_cancels day J legal, closed_moves_nothing day J legal)

pub goes_on : (day : Day) (J : History) → is_sound day ≡ true → IsLegal day J → GoesOn day J
goes_on day J sound legal =
    let l : length J ≤ most_lines day = length-bound day sound J legal in
    let m : moved J ≤ most_moves day = moved-bound day sound J legal in
    ((l, m, omega (arith, l, lines_fit day sound), omega (arith, m, moves_fit day sound)), always_goes_on day sound J legal)

pub all_laws : EveryLegalHistoryKeepsTheLaws
all_laws day J sound legal = record {
  never_below_zero = never_below_zero day J legal;
  conserved = conserved_throughout day J sound legal;
  credits_follow_debits = credits_follow_debits day J legal;
  whole_or_nothing = whole_or_nothing day J legal;
  nothing_is_left = nothing_is_left day J sound legal;
  repeats_do_nothing = repeats_do_nothing day J legal;
  entries_settle_once = entries_settle_once day J sound legal;
  messages_in_order = messages_in_order day sound J legal;
  goes_on = goes_on day J sound legal;
  booked_at_most_once = booked_at_most_once day J legal;
  moved_as_stated = moved_as_stated day J legal;
  batches_of_d_move_in_turn = batches_of_d_move_in_turn day J legal;
  only_accepted_go_on = only_accepted_go_on day J legal;
  objections_have_force = objections_have_force day J legal;
  fund_pays_on_yes = fund_pays_on_yes day J legal;
  queue_is_in_order = queue_is_in_order day J legal;
  subs_give_back = subs_give_back day J sound legal;
  ends_in_its_time = ends_in_its_time day J sound legal;
  time_waits = time_waits day J sound legal;
  taken_as_due = taken_as_due day J legal;
  nothing_follows_the_end = nothing_follows_the_end day J legal;
}
