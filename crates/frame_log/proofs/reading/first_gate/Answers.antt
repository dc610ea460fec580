use Rattle.std.proofs.Common.{◌∙◌, sym}
use Rattle.frame_log.proofs.TakingFacts.{as_whole, gate_found, other_header, was_not, was_so}
use Rattle.frame_log.proofs.reading.first_gate.Goals as goal

pub returns-then-ne-clause-found : goal.returns-then-ne-clause-found
returns-then-ne-clause-found g c = λ bytes e.
    let took = as_whole _ _ c.take.new.buf bytes _ c.if-not-branch.false c.in_ok-take.ensures.taken e in
    other_header c.take.new.buf bytes took.0 c.take.auto.buf took.2 (was_not _ (sym c.ne.ensures ∙ c.if-ne.true))

pub returns-clause-found : goal.returns-clause-found
returns-clause-found g c = λ bytes e.
    let took = as_whole _ _ c.take.new.buf bytes _ c.if-not-branch.false c.in_ok-take.ensures.taken e in
    (took.0, took.1, gate_found c.take.new.buf bytes took.0 c.take.auto.buf took.2 (was_so _ (sym c.ne.ensures ∙ c.if-ne.false)))
