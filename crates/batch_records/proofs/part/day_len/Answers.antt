use Rattle.std.proofs.Common.{true, arith}
use Rattle.batch_records.proofs.PartFacts.{no_end_line, part_end, part_found, rest_is}
use Rattle.batch_records.proofs.part.day_len.Goals as goal

pub returns-in-Some-clause-same : goal.returns-in-Some-clause-same
returns-in-Some-clause-same c =
    let found = part_found true c.args.input.now c.loop-at.at c.in-Some.n c.loop-at-test.true (rw rest_is at c.in-Some.ensures.same) in
    let rest = c.loop-at.invariant.rest in
    omega (arith, found, rest)

pub loop-at-preserved : goal.loop-at-preserved
loop-at-preserved c =
    let none = no_end_line c.args.input.now c.loop-at.at c.loop-at-test.true (rw (c.in_default.is, rest_is) at c.end_line_len.ensures.same) in
    let rest = c.loop-at.invariant.rest in
    let line = c.line_end-at.ensures.rest in
    let behind = c.line_end-at.ensures.behind in
    record { within = c.line_end-at.ensures.within; rest = omega (arith, none, rest, line, behind) }

pub returns-clause-same : goal.returns-clause-same
returns-clause-same c =
    let rest = c.loop-at.invariant.rest in
    let none = part_end true c.args.input.now c.loop-at.at c.loop-at-test.false in
    omega (arith, rest, none)
