use Rattle.std.proofs.Common.{◌∙◌, false, length, true, arith, sym}
use Rattle.batch_records.proofs.PartFacts.{line_goes, line_stops, part_end, rest_is}
use Rattle.batch_records.proofs.part.line_end.Goals as goal

pub loop-i-init : goal.loop-i-init
loop-i-init c = record { behind = omega arith; rest = omega arith }

pub loop-i-preserved : goal.loop-i-preserved
loop-i-preserved c =
    let step = line_goes c.args.input.now c.loop-i.i c.loop-i-test.true (sym (rw rest_is at c.starts_line.ensures) ∙ c.if-starts_line.false) in
    let behind = c.loop-i.invariant.behind in
    let rest = c.loop-i.invariant.rest in
    record { behind = omega (arith, behind); rest = omega (arith, behind, rest, step) }

pub returns-then-starts_line-clause-rest : goal.returns-then-starts_line-clause-rest
returns-then-starts_line-clause-rest c =
    let step = line_stops c.args.input.now c.loop-i.i c.loop-i-test.true (sym (rw rest_is at c.starts_line.ensures) ∙ c.if-starts_line.true) in
    let behind = c.loop-i.invariant.behind in
    let rest = c.loop-i.invariant.rest in
    omega (arith, behind, rest, step)

pub returns-clause-rest : goal.returns-clause-rest
returns-clause-rest c =
    let xs = c.args.input.now in
    let none = part_end true xs (length xs) (omega arith) in
    let past = part_end false xs c.loop-i.i c.loop-i-test.false in
    let last = c.loop-i.auto.i-end (omega (arith, c.requires)) in
    let rest = c.loop-i.invariant.rest in
    omega (arith, none, past, last, rest, c.loop-i-test.false)
