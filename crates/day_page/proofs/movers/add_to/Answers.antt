use Rattle.std.proofs.Common.{◌∙◌, ◌+◌, ◌-◌, ◌^◌, ℕ, ap, arith}
use Rattle.std.specs.Prelude.{min, slice_index}
use Rattle.day_facts.proofs.Lists.{changed_none, changed_past, changed_set}
use Rattle.day_page.specs.Courses.{added}
use Rattle.day_page.proofs.movers.add_to.Goals as goal
use Rattle.day_page.proofs.movers.add_to.Goals.{then-a-eq0-via-then-a-eq0, then-a-eq0-via-else-a-eq0+then-a-sums}

pub returns-then-a-eq0 : goal.returns-then-a-eq0
returns-then-a-eq0 c = elim c.then-a-eq0.branch [
  | then-a-eq0-via-then-a-eq0 w ↦ changed_none c.args.a (added c.args.amount) c.args.sums.now w.if-a-eq0.true
  | then-a-eq0-via-else-a-eq0+then-a-sums w ↦ changed_past c.args.a (added c.args.amount) c.args.sums.now (omega (arith, w.if-a-sums.true))
]

pub returns : goal.returns
returns c =
    changed_set c.args.a (added c.args.amount) c.args.sums.now 0 _ c.if-a-eq0.false c.if-a-sums.false
    (c.saturating_add.ensures ∙ ap (λ (amount : ℕ). min (slice_index c.args.sums.now (c.args.a - 1) + amount) (2 ^ 128 - 1)) c.from.ensures)
