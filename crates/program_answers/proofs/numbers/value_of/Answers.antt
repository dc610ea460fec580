use Rattle.std.proofs.Common.{◌+◌, ◌*◌, arith}
use Rattle.program_answers.proofs.Digits.{room_for_more, value_more, value_small}
use Rattle.program_answers.proofs.numbers.value_of.Goals as goal

pub overflow_mul-value : goal.overflow_mul-value
overflow_mul-value c =
    let low = room_for_more c.args.text.now c.loop-byte.byte-index c.loop-byte.value c.requires.digits c.requires.short c.loop-byte-test.true c.loop-byte.invariant in
    omega (arith, low)

pub overflow_add-value : goal.overflow_add-value
overflow_add-value c =
    let more = value_more c.args.text.now c.loop-byte.byte-index c.loop-byte.value c.from.result c.requires.digits c.loop-byte-test.true c.loop-byte.invariant c.from.ensures in
    let low = value_small c.args.text.now (c.loop-byte.byte-index + 1) (c.loop-byte.value * 10 + c.from.result) c.requires.digits c.requires.short more in
    omega (arith, low)

pub loop-byte-preserved : goal.loop-byte-preserved
loop-byte-preserved c = value_more c.args.text.now c.loop-byte.byte-index c.loop-byte.value c.from.result c.requires.digits c.loop-byte-test.true c.loop-byte.invariant c.from.ensures
