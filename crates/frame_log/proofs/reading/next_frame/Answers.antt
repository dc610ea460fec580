use Rattle.std.proofs.Common.{◌∙◌, take, sym, subst, arith}
use Rattle.kept_text.specs.Frames.{text_told}
use Rattle.frame_log.specs.Finding.{IsBody}
use Rattle.frame_log.proofs.FindingFacts.{no_body, no_length, too_short}
use Rattle.frame_log.proofs.TakingFacts.{as_short, as_whole}
use Rattle.frame_log.proofs.reading.next_frame.Goals as goal

pub returns-then-not-branch-clause-frame : goal.returns-then-not-branch-clause-frame
returns-then-not-branch-clause-frame g c = λ bytes e.
    let short = as_short _ _ c.take.new.buf bytes _ c.if-not-branch.true c.in_ok-take.ensures.taken e in
    too_short c.args.before.now (text_told bytes) bytes (omega (arith, short, c.take.auto.buf))

pub returns-in_default-clause-frame : goal.returns-in_default-clause-frame
returns-in_default-clause-frame g c = λ bytes e.
    let took = as_whole _ _ c.take.new.buf bytes _ c.if-not-branch.false c.in_ok-take.ensures.taken e in
    no_length c.args.before.now (text_told bytes) bytes c.take.new.buf took.0 c.take.auto.buf took.2 c.in_default.ensures

pub returns-in-None-clause-frame : goal.returns-in-None-clause-frame
returns-in-None-clause-frame g c = λ bytes e.
    let took = as_whole _ _ c.take.new.buf bytes _ c.if-not-branch.false c.in_ok-take.ensures.taken e in
    let head = c.in-Some.ensures in
    let count = c.in-Some.head.count in
    let body = subst (IsBody c.args.before.now count c.in-Some.head.digest (take count c.gate_behind.new.room) (g.R.Reader.left c.take.new.self) (g.R.Reader.left c.gate_behind.new.reader)) c.in-None.is c.in_ok-gate.ensures.body in
    no_body c.args.before.now (text_told bytes) bytes c.take.new.buf took.0 count c.take.auto.buf took.2 head.0 head.2 (λ long told. body took.0 took.1 long (told ∙ sym head.3))
