use Rattle.std.proofs.Common.{ℕ, List, subst, sym}
use Rattle.cash_amounts.specs.Numbers.{numbered}
use Rattle.live_day.specs.LiveFloors.{HasMade}
use Rattle.settle_floor.specs.Floors.{AtWork}
use Rattle.live_tests.proofs.settle_floor_tests.wrong_beside.Goals as goal

pub wrong_event-wrong-requires-clause-made : goal.wrong_event-wrong-requires-clause-made
wrong_event-wrong-requires-clause-made g c = subst (λ (till : List ℕ). HasMade c.args.setting.day c.floor_of-floor.result (numbered till)) (sym c.till_of-till.ensures) c.floor_of-floor.ensures

pub wrong_event-wrong-requires-clause-wide : goal.wrong_event-wrong-requires-clause-wide
wrong_event-wrong-requires-clause-wide g c = subst (λ (till : List ℕ). AtWork c.args.whole.now.day c.wide_floor-wide.result (numbered till)) (sym c.till_of-wide_till.ensures) c.wide_floor-wide.ensures
