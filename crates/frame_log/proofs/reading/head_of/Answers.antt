use Rattle.std.proofs.Common.{◌∙◌, drop, arith, length-drop}
use Rattle.std.proofs.lemmas.List.{take_all}
use Rattle.frame_log.proofs.reading.head_of.Goals as goal

pub returns : goal.returns
returns c = (
  c.number_of-count.ensures,
  omega (arith, c.if-count-eq0.false),
  c.if-count-gt-MOST.false,
  c.copy_from_slice.ensures.after ∙ take_all 32 (drop 4 c.args.front.now) (omega (arith, length-drop 4 c.args.front.now, c.told-front)),
)
