use Rattle.std.proofs.Common.{◌∙◌, sym, arith}
use Rattle.commit_journal.proofs.ReadingLemmas.{number_none, number_fits, number_misfits}
use Rattle.commit_journal.proofs.fields.number.Goals as goal

pub returns-in_default : goal.returns-in_default
returns-in_default c = number_none c.args.low c.args.high c.args.text.now (omega arith) (λ n small e. cc (c.parsed.ensures n small e))

pub returns-then-fits : goal.returns-then-fits
returns-then-fits c = number_fits c.args.low c.args.high c.in-Some.n c.args.text.now (omega arith) (sym c.fits.ensures ∙ c.if-fits.true)

pub returns-else-fits : goal.returns-else-fits
returns-else-fits c = number_misfits c.args.low c.args.high c.in-Some.n c.args.text.now (omega arith) c.in-Some.ensures (sym c.fits.ensures ∙ c.if-fits.false)
