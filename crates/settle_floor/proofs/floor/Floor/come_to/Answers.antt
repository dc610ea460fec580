use Rattle.std.proofs.Common.{◌∙◌, sym, ap}
use Rattle.machine.specs.Orders.Order.{quiet}
use Rattle.live_order.specs.LiveOrder.{laps_to}
use Rattle.settle_floor.proofs.LiveRuns.{laps_to-falls, laps_to-next, laps_to-over}
use Rattle.settle_floor.proofs.floor.Floor.come_to.Goals as goal

pub laps-smaller : goal.laps-smaller
laps-smaller g c =
    let going = sym (c.has_come_to.ensures c.args.setting.now.day c.laps.invariant.at_work.opened) ∙ c.laps-test.true in
    laps_to-falls c.args.setting.now.day c.args.setting.now.sound c.args.time c.requires.time _ _ c.laps.invariant.at_work.opened.fits.legal going c.lap.ensures.lines

pub laps-preserved : goal.laps-preserved
laps-preserved g c =
    let going = sym (c.has_come_to.ensures c.args.setting.now.day c.laps.invariant.at_work.opened) ∙ c.laps-test.true in
    record {
      same = ap (laps_to c.args.setting.now.day c.args.time) c.lap.ensures.lines ∙ sym (laps_to-next c.args.setting.now.day c.args.setting.now.sound c.args.time c.requires.time _ c.laps.invariant.at_work.opened.fits.legal going) ∙ c.laps.invariant.same;
      at_work = c.lap.ensures.at_work;
    }

pub returns-clause-lines : goal.returns-clause-lines
returns-clause-lines g c =
    let reached = sym (c.has_come_to.ensures c.args.setting.now.day c.laps.invariant.at_work.opened) ∙ c.laps-test.false in
    c.quiet.ensures.lines ∙ ap (quiet c.args.setting.now.day) (sym (laps_to-over c.args.setting.now.day c.args.time _ reached) ∙ c.laps.invariant.same)
