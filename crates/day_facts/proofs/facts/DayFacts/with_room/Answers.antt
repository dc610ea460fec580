use Rattle.std.proofs.Common.{arith, length}
use Rattle.day_facts.proofs.Arriving.{all_arrived}
use Rattle.day_facts.proofs.facts.DayFacts.with_room.Goals as goal

pub whole-requires : goal.whole-requires
whole-requires c = omega (arith, c.item_count.ensures.count, c.item_count.ensures.few)

pub returns : goal.returns
returns c = all_arrived c.args.setting.now.day (length c.args.setting.now.day.messages) _ _ c.in_ok-facts.ensures
