use Rattle.std.proofs.Common.{◌-◌, arith}
use Rattle.std.specs.Prelude.{slice_index_or}
use Rattle.day_facts.proofs.Lists.{changed_none, changed_past, changed_set}
use Rattle.day_page.specs.declared.extents.Extent.{Extent}
use Rattle.day_page.specs.Extents.{marked}
use Rattle.day_page.proofs.extents.mark.Goals as goal
use Rattle.day_page.proofs.extents.mark.Goals.{then-a-eq0-via-then-a-eq0, then-a-eq0-via-else-a-eq0+then-a-extents}

pub returns-then-a-eq0 : goal.returns-then-a-eq0
returns-then-a-eq0 c = elim c.then-a-eq0.branch [
  | then-a-eq0-via-then-a-eq0 w ↦ changed_none c.args.a marked c.args.extents.now w.if-a-eq0.true
  | then-a-eq0-via-else-a-eq0+then-a-extents w ↦ changed_past c.args.a marked c.args.extents.now (omega (arith, w.if-a-extents.true))
]

pub returns : goal.returns
returns c =
    let none : Extent = record { held = 0; lowest = 0; highest = 0 } in
    let x : Extent = slice_index_or c.args.extents.now (c.args.a - 1) none in
    changed_set c.args.a marked c.args.extents.now none _ c.if-a-eq0.false c.if-a-extents.false (λ i. record { held = x.held; lowest = c.min.ensures i; highest = c.max.ensures i })
