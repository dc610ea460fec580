use Rattle.std.proofs.Common.{arith, refl}
use Rattle.day_facts.proofs.Lists.{changed_none, changed_past, changed_set}
use Rattle.day_facts.proofs.left.put_last.Goals as goal
use Rattle.day_facts.proofs.left.put_last.Goals.{then-n-eq0-via-then-n-eq0, then-n-eq0-via-else-n-eq0+then-n-lasts}

pub returns-then-n-eq0 : goal.returns-then-n-eq0
returns-then-n-eq0 c = elim c.then-n-eq0.branch [
  | then-n-eq0-via-then-n-eq0 w ↦ changed_none c.args.n (λ last. c.args.place) c.args.lasts.now w.if-n-eq0.true
  | then-n-eq0-via-else-n-eq0+then-n-lasts w ↦ changed_past c.args.n (λ last. c.args.place) c.args.lasts.now (omega (arith, w.if-n-lasts.true))
]

pub returns : goal.returns
returns c = changed_set c.args.n (λ last. c.args.place) c.args.lasts.now 0 _ c.if-n-eq0.false c.if-n-lasts.false refl
