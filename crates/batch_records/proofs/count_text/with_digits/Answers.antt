use Rattle.std.proofs.Common.{◌∙◌, sym}
use Rattle.batch_records.proofs.CountTextFacts.{no_more}
use Rattle.batch_records.proofs.count_text.with_digits.Goals as goal

pub returns-then-n-eq0 : goal.returns-then-n-eq0
returns-then-n-eq0 c = sym (no_more c.loop-c.n c.args.text.now c.loop-c.c-index c.loop-c-test.true c.then-n-eq0.either) ∙ c.loop-c.invariant
