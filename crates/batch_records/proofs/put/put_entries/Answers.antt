use Rattle.outside_io.proofs.PutLemmas.{has_put_is, has_put_more, has_put_none, puts_front, texts_next, texts_parts}
use Rattle.batch_records.specs.DayTexts.{entry_text}
use Rattle.batch_records.proofs.put.put_entries.Goals as goal

pub loop-entry-init : goal.loop-entry-init
loop-entry-init g c = has_put_none _

pub returns-in_err-put_entry : goal.returns-in_err-put_entry
returns-in_err-put_entry g c =
    puts_front _ _ _ _ _ _ _ _ _ c.from_residual.ensures.0 (texts_parts entry_text _ _ _ c.loop-entry-test.true c.entry-item.is) c.loop-entry.invariant c.in_err-put_entry.ensures

pub loop-entry-preserved : goal.loop-entry-preserved
loop-entry-preserved g c = has_put_is _ _ _ _ (texts_next entry_text _ _ _ c.loop-entry-test.true c.entry-item.is) (has_put_more _ _ _ _ _ _ c.loop-entry.invariant c.in_ok-put_entry.ensures)
