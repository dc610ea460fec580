use Rattle.commit_journal.specs.Histories.{oldest}
use Rattle.outside_io.proofs.PutLemmas.{has_put_is, has_put_more, has_put_none, puts_front}
use Rattle.day_page.specs.CountTexts.{count_row}
use Rattle.day_page.proofs.TextFacts.{next_at, parts_at}
use Rattle.day_page.proofs.counting.put_rows_of.Goals as goal

pub loop-class-init : goal.loop-class-init
loop-class-init g c = has_put_none _

pub returns-in_err-put_count_row : goal.returns-in_err-put_count_row
returns-in_err-put_count_row g c =
    puts_front _ _ _ _ _ _ _ _ _ c.from_residual.ensures.0 (parts_at (count_row c.args.past.now.setting.now.day c.args.request.now (oldest c.args.past.now.journal.now.history c.args.past.now.place)) c.args.classes.now c.loop-class.class-index _ c.loop-class-test.true) c.loop-class.invariant c.in_err-put_count_row.ensures

pub loop-class-preserved : goal.loop-class-preserved
loop-class-preserved g c = has_put_is _ _ _ _ (next_at (count_row c.args.past.now.setting.now.day c.args.request.now (oldest c.args.past.now.journal.now.history c.args.past.now.place)) c.args.classes.now c.loop-class.class-index _ c.loop-class-test.true) (has_put_more _ _ _ _ _ _ c.loop-class.invariant c.in_ok-put_count_row.ensures)
