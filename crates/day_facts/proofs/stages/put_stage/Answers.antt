use Rattle.std.proofs.Common.{arith, refl}
use Rattle.day_facts.proofs.Lists.{changed_none, changed_past, changed_set}
use Rattle.day_facts.proofs.stages.put_stage.Goals as goal
use Rattle.day_facts.proofs.stages.put_stage.Goals.{then-n-eq0-via-then-n-eq0, then-n-eq0-via-else-n-eq0+then-n-items}

pub returns-then-n-eq0 : goal.returns-then-n-eq0
returns-then-n-eq0 c = elim c.then-n-eq0.branch [
  | then-n-eq0-via-then-n-eq0 w ↦ changed_none c.args.n (λ old. c.args.stage) c.args.items.now w.if-n-eq0.true
  | then-n-eq0-via-else-n-eq0+then-n-items w ↦ changed_past c.args.n (λ old. c.args.stage) c.args.items.now (omega (arith, w.if-n-items.true))
]

pub returns : goal.returns
returns c = changed_set c.args.n (λ old. c.args.stage) c.args.items.now c.args.stage _ c.if-n-eq0.false c.if-n-items.false refl
