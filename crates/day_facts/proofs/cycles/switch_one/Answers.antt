use Rattle.std.proofs.Common.{arith, Some}
use Rattle.day_facts.specs.Cycles.{cycles_after}
use Rattle.day_facts.proofs.Lists.{changed_none, changed_past, changed_set}
use Rattle.day_facts.proofs.cycles.switch_one.Goals as goal
use Rattle.day_facts.proofs.cycles.switch_one.Goals.{then-s-eq0-via-then-s-eq0, then-s-eq0-via-else-s-eq0+then-s-all}

pub returns-then-s-eq0 : goal.returns-then-s-eq0
returns-then-s-eq0 c = elim c.then-s-eq0.branch [
  | then-s-eq0-via-then-s-eq0 w ↦ changed_none c.args.s (cycles_after (Some c.args.start) c.args.place) c.args.all.now w.if-s-eq0.true
  | then-s-eq0-via-else-s-eq0+then-s-all w ↦ changed_past c.args.s (cycles_after (Some c.args.start) c.args.place) c.args.all.now (omega (arith, w.if-s-all.true))
]

pub returns : goal.returns
returns c = changed_set c.args.s (cycles_after (Some c.args.start) c.args.place) c.args.all.now _ _ c.if-s-eq0.false c.if-s-all.false c.switch.ensures
