use Rattle.commit_journal.specs.Histories.{oldest}
use Rattle.outside_io.proofs.PutLemmas.{has_put_is, has_put_more, has_put_none, puts_front}
use Rattle.day_page.specs.CountTexts.{outcome_cell}
use Rattle.day_page.proofs.TextFacts.{next_at, parts_at}
use Rattle.day_page.proofs.counting.put_outcomes.Goals as goal

pub loop-outcome-init : goal.loop-outcome-init
loop-outcome-init g c = has_put_none _

pub returns-in_err-put_outcome_cell : goal.returns-in_err-put_outcome_cell
returns-in_err-put_outcome_cell g c =
    puts_front _ _ _ _ _ _ _ _ _ c.from_residual.ensures.0 (parts_at (outcome_cell c.args.past.now.setting.now.day c.args.request.now (oldest c.args.past.now.journal.now.history c.args.past.now.place) c.args.class) c.args.outcomes.now c.loop-outcome.outcome-index _ c.loop-outcome-test.true) c.loop-outcome.invariant c.in_err-put_outcome_cell.ensures

pub loop-outcome-preserved : goal.loop-outcome-preserved
loop-outcome-preserved g c = has_put_is _ _ _ _ (next_at (outcome_cell c.args.past.now.setting.now.day c.args.request.now (oldest c.args.past.now.journal.now.history c.args.past.now.place) c.args.class) c.args.outcomes.now c.loop-outcome.outcome-index _ c.loop-outcome-test.true) (has_put_more _ _ _ _ _ _ c.loop-outcome.invariant c.in_ok-put_outcome_cell.ensures)
