use Rattle.due_items.proofs.NotingFacts.{cycle_none, cycle_those, cycle_zero}
use Rattle.due_items.proofs.noting.note_cycle.Goals as goal

pub returns-then-n-eq0 : goal.returns-then-n-eq0
returns-then-n-eq0 c = cycle_zero c.args.setting.now.day c.args.facts.now c.args.index.now c.args.n c.args.flags.now c.if-n-eq0.true

pub returns-then-is_cycle_end : goal.returns-then-is_cycle_end
returns-then-is_cycle_end c = cycle_those c.args.setting.now.day c.args.facts.now c.args.index.now c.args.n _ _ c.renew_cycles.ensures

pub returns-else-is_cycle_end : goal.returns-else-is_cycle_end
returns-else-is_cycle_end c = cycle_none c.args.setting.now.day c.args.facts.now c.args.index.now c.args.n c.args.flags.now _ c.is_cycle_end.ensures c.if-is_cycle_end.false
