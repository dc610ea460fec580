use Rattle.std.proofs.Common.{sym, subst}
use Rattle.cash_amounts.specs.Numbers.{numbered}
use Rattle.batch_records.specs.DayRecord.{Day}
use Rattle.settle_floor.specs.Floors.{IsBalanced}
use Rattle.rtgs_engine.proofs.Texts.{says_settled_if_room}
use Rattle.rtgs_engine.proofs.Worked.{worked}
use Rattle.rtgs_engine.proofs.working.settle_opened.Goals as goal

pub put_settled-requires : goal.put_settled-requires
put_settled-requires g c =
    record { balanced = subst (λ (day : Day). IsBalanced day c.settle-journal.result.0 (numbered c.settle-journal.result.1)) (sym c.settle-journal.ensures.day) c.settle-journal.ensures.balanced }

pub returns : goal.returns
returns g c =
    says_settled_if_room g.S.Sink.state _ _ c.args.opened.lanes.workers g.H.HallName.day c.settle-journal.result.2.day c.settle-journal.result.0.history _ c.settle-journal.ensures.day
    (worked c.args.opened.lanes.workers g.H.HallName.day c.settle-journal.result.0 _ c.requires.sound c.requires.workers c.settle-journal.ensures.balanced c.settle-journal.ensures.complete) c.put_settled.ensures
