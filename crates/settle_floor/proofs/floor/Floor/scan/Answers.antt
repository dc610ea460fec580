use Rattle.std.proofs.Common.{◌∙◌, refl, arith}
use Rattle.settle_floor.proofs.DueFacts.{fewer_left, swept_is}
use Rattle.settle_floor.proofs.floor.Floor.scan.Goals as goal

pub items-init : goal.items-init
items-init g c = record { same = refl; low = omega arith; at_work = c.requires.at_work }

pub visit_next-requires : goal.visit_next-requires
visit_next-requires g c = record { at_work = c.items.invariant.at_work }

pub items-smaller : goal.items-smaller
items-smaller g c = fewer_left _ _ _ c.in-Some.ensures.lines.0 c.in-Some.ensures.lines.1

pub items-preserved : goal.items-preserved
items-preserved g c =
    let within = c.in-Some.ensures.lines.1 in
    record {
      same = c.in-Some.ensures.lines.2 ∙ c.items.invariant.same;
      low = omega (arith, within);
      at_work = c.in-Some.ensures.at_work;
    }

pub returns-in-None-clause-lines : goal.returns-in-None-clause-lines
returns-in-None-clause-lines g c = c.in-None.ensures.lines.0 ∙ (c.in-None.ensures.lines.1 c.items.invariant.low ∙ (c.items.invariant.same ∙ swept_is _ _))

pub returns-in-None-clause-at_work : goal.returns-in-None-clause-at_work
returns-in-None-clause-at_work g c = c.in-None.ensures.at_work
