use Rattle.std.proofs.Common.{arith, ◌-◌}
use Rattle.day_facts.proofs.Lists.{changed_none, changed_past, changed_set}
use Rattle.day_facts.proofs.flags.count_down.Goals as goal
use Rattle.day_facts.proofs.flags.count_down.Goals.{then-n-eq0-via-then-n-eq0, then-n-eq0-via-else-n-eq0+then-n-standing}

pub returns-then-n-eq0 : goal.returns-then-n-eq0
returns-then-n-eq0 c = elim c.then-n-eq0.branch [
  | then-n-eq0-via-then-n-eq0 w ↦ changed_none c.args.n (λ count. count - 1) c.args.standing.now w.if-n-eq0.true
  | then-n-eq0-via-else-n-eq0+then-n-standing w ↦ changed_past c.args.n (λ count. count - 1) c.args.standing.now (omega (arith, w.if-n-standing.true))
]

pub returns : goal.returns
returns c = changed_set c.args.n (λ count. count - 1) c.args.standing.now 0 _ c.if-n-eq0.false c.if-n-standing.false c.saturating_sub.ensures
