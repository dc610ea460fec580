use Rattle.std.proofs.Common.{ap}
use Rattle.commit_journal.specs.Text.{journal_text}
use Rattle.outside_io.proofs.PutLemmas.{puts_first, puts_then}
use Rattle.day_chain.specs.ChainTexts.{part_text}
use Rattle.day_chain.proofs.text.put_part.Goals as goal

pub returns-in_err-put_date : goal.returns-in_err-put_date
unfolding part_text
returns-in_err-put_date g c = puts_first _ _ _ _ _ _ c.from_residual.ensures.0 c.in_err-put_date.ensures

pub returns : goal.returns
unfolding part_text
returns g c = puts_then _ _ _ _ _ _ _ c.in_ok-put_date.ensures (rw (ap journal_text c.requires) at c.put_journal.ensures)
