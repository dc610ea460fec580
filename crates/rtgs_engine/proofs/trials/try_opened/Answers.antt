use Rattle.std.proofs.Common.{sym, subst}
use Rattle.cash_amounts.specs.Numbers.{numbered}
use Rattle.batch_records.specs.DayRecord.{Day}
use Rattle.settle_floor.specs.Floors.{IsBalanced}
use Rattle.rtgs_engine.proofs.trials.try_opened.Goals as goal

pub say_summary-status-requires-clause-balanced : goal.say_summary-status-requires-clause-balanced
say_summary-status-requires-clause-balanced g c =
    subst (λ (day : Day). IsBalanced day c.settle-journal.result.0 (numbered c.settle-journal.result.1)) (sym c.settle-journal.ensures.day) c.settle-journal.ensures.balanced
