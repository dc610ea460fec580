use Rattle.std.proofs.Common.{◌∙◌, ℕ, List, ap, arith, get_or, length, subst}
use Rattle.commit_journal.specs.Kept.{Kept}
use Rattle.settle_floor.proofs.RoomFacts.{StopsAt, all_stops, stops_next}
use Rattle.settle_floor.proofs.floor.Floor.stop_all.Goals as goal

pub loop-at-preserved : goal.loop-at-preserved
loop-at-preserved c =
    let size = ap (λ (stops : List ℕ). length stops) c.stops-at-end.ensures in
    record {
      journal = c.stop.ensures.journal ∙ c.loop-at.invariant.journal;
      opened = stops_next c.args.setting.now.day c.loop-at.at c.loop-at.self c.stop.new.self c.args.setting.now.sound (omega (arith, size, c.loop-at-test.true))
          (ap (λ (j : Kept). j.history) c.loop-at.invariant.journal ∙ c.requires.empty) c.loop-at.invariant.opened
          (subst (λ (stops : List ℕ). StopsAt c.loop-at.self c.stop.new.self (get_or stops c.loop-at.at 0)) c.stops.ensures c.stop.ensures.opened);
    }

pub returns-clause-opened : goal.returns-clause-opened
returns-clause-opened c =
    let size = ap (λ (stops : List ℕ). length stops) c.stops-at-end.ensures in
    all_stops c.args.setting.now.day c.loop-at.at c.loop-at.self (omega (arith, size, c.loop-at-test.false)) c.loop-at.invariant.opened
