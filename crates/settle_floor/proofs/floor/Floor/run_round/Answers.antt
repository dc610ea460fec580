use Rattle.std.proofs.Common.{◌∙◌, sym, ap}
use Rattle.settlement_laws.proofs.DayEnd.PlainRuns.{laps, laps-falls, laps-next, laps-over, to_round-laps}
use Rattle.settle_floor.proofs.floor.Floor.run_round.Goals as goal

pub laps-smaller : goal.laps-smaller
laps-smaller g c =
    let going = sym (c.is_past.ensures c.args.setting.now.day c.laps.invariant.at_work.opened) ∙ c.laps-test.true in
    laps-falls c.args.setting.now.day c.args.setting.now.sound c.round-first.result _ _ c.laps.invariant.at_work.opened.fits.legal going c.lap.ensures.lines

pub laps-preserved : goal.laps-preserved
laps-preserved g c =
    let going = sym (c.is_past.ensures c.args.setting.now.day c.laps.invariant.at_work.opened) ∙ c.laps-test.true in
    record {
      same = ap (laps c.args.setting.now.day c.round-first.result) c.lap.ensures.lines ∙ sym (laps-next c.args.setting.now.day c.args.setting.now.sound c.round-first.result _ c.laps.invariant.at_work.opened.fits.legal going) ∙ c.laps.invariant.same;
      at_work = c.lap.ensures.at_work;
    }

pub returns-clause-lines : goal.returns-clause-lines
returns-clause-lines g c =
    let over = sym (c.is_past.ensures c.args.setting.now.day c.laps.invariant.at_work.opened) ∙ c.laps-test.false in
    sym (laps-over c.args.setting.now.day c.round-first.result _ over) ∙ c.laps.invariant.same
    ∙ ap (λ r. laps c.args.setting.now.day r c.args.self.now.journal.history) (c.round-first.ensures c.args.setting.now.day c.requires.at_work.opened) ∙ sym (to_round-laps c.args.setting.now.day c.args.self.now.journal.history)

pub returns-clause-ended : goal.returns-clause-ended
returns-clause-ended g c = c.has_ended.ensures c.args.setting.now.day c.laps.invariant.at_work.opened
