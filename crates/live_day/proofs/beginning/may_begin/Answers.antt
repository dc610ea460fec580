use Rattle.std.proofs.Common.{◌∙◌, arith}
use Rattle.std.specs.Prelude.{is_some}
use Rattle.live_day.proofs.HeaderFacts.{begins_long, begins_short}
use Rattle.live_day.proofs.beginning.may_begin.Goals as goal

pub returns-then-text-word : goal.returns-then-text-word
returns-then-text-word c w e = c.starts_with.ensures.value ∙ begins_short w c.args.word.now c.args.most c.args.text.now e (omega (arith, c.if-text-word.true))

pub returns : goal.returns
returns c w e = c.is_some.ensures ∙ (λ i. is_some (c.count_in.ensures i)) ∙ begins_long w c.args.word.now c.args.most c.args.text.now e (omega (arith, c.if-text-word.false))
