use Rattle.std.proofs.Common.{◌∙◌, ap, subst, sym}
use Rattle.commit_journal.specs.Kept.{Kept}
use Rattle.settlement_laws.specs.Fits.{Fits}
use Rattle.journal_reading.specs.Reading.{lines_in}
use Rattle.journal_reading.proofs.ReadingLaws.{counted}
use Rattle.journal_reading.proofs.reading.read_journal.Goals as goal

pub read_into-requires-clause-empty : goal.read_into-requires-clause-empty
read_into-requires-clause-empty c = ap (λ (k : Kept). k.history) c.into_journal.ensures ∙ c.in-Ok.ensures.empty

pub read_into-requires-clause-fits : goal.read_into-requires-clause-fits
read_into-requires-clause-fits c = subst (λ (k : Kept). Fits c.args.setting.now.day k) (sym c.into_journal.ensures) c.in-Ok.ensures.opened.fits

pub read_into-requires-clause-count : goal.read_into-requires-clause-count
read_into-requires-clause-count c = c.lines_of-count.ensures ∙ ap lines_in c.in_ok-replay.ensures.verdict ∙ counted c.args.setting.now.day c.args.text.now
