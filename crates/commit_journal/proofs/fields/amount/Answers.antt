use Rattle.std.proofs.Common.{arith}
use Rattle.commit_journal.proofs.ReadingLemmas.{amount_none, amount_some, amount_zero}
use Rattle.commit_journal.proofs.fields.amount.Goals as goal

pub returns-in_default : goal.returns-in_default
returns-in_default c = amount_none c.args.text.now c.in_default.ensures.err.no_amount

pub returns-then-get-eq0 : goal.returns-then-get-eq0
returns-then-get-eq0 c = amount_zero c.args.text.now c.in-Ok.cents c.in-Ok.ensures.ok (omega (arith, c.if-get-eq0.true, c.get.ensures.value))

pub returns : goal.returns
returns c = amount_some c.args.text.now c.in-Ok.cents c.in-Ok.ensures.ok (λ z. c.if-get-eq0.false (omega (arith, z, c.get.ensures.value)))
