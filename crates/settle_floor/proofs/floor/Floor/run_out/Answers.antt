use Rattle.std.proofs.Common.{◌∙◌, sym, ap}
use Rattle.machine.specs.Orders.Order.{to_end}
use Rattle.settlement_laws.proofs.DayEnd.PlainRuns.{rounds-falls, to_end-next, to_end-over, ended-complete}
use Rattle.settle_floor.proofs.floor.Floor.run_out.Goals as goal

pub rounds-smaller : goal.rounds-smaller
rounds-smaller g c =
    let going = sym (c.has_ended.ensures c.args.setting.now.day c.rounds.invariant.at_work.opened) ∙ c.rounds-test.true in
    rounds-falls c.args.setting.now.day c.args.setting.now.sound _ _ c.rounds.invariant.at_work.opened.fits.legal going c.run_round.ensures.lines

pub rounds-preserved : goal.rounds-preserved
rounds-preserved g c =
    let going = sym (c.has_ended.ensures c.args.setting.now.day c.rounds.invariant.at_work.opened) ∙ c.rounds-test.true in
    record {
      same = ap (to_end c.args.setting.now.day) c.run_round.ensures.lines ∙ sym (to_end-next c.args.setting.now.day c.args.setting.now.sound _ c.rounds.invariant.at_work.opened.fits.legal going) ∙ c.rounds.invariant.same;
      at_work = c.run_round.ensures.at_work;
    }

pub returns-clause-lines : goal.returns-clause-lines
returns-clause-lines g c =
    let over = sym (c.has_ended.ensures c.args.setting.now.day c.rounds.invariant.at_work.opened) ∙ c.rounds-test.false in
    sym (to_end-over c.args.setting.now.day _ over) ∙ c.rounds.invariant.same

pub returns-clause-complete : goal.returns-clause-complete
returns-clause-complete g c =
    let over = sym (c.has_ended.ensures c.args.setting.now.day c.rounds.invariant.at_work.opened) ∙ c.rounds-test.false in
    ended-complete c.args.setting.now.day _ c.rounds.invariant.at_work.opened.fits.legal over
