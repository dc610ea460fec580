use Rattle.outside_io.proofs.PutLemmas.{puts_first, puts_then}
use Rattle.trial_day.specs.Summary.{summary_of_journal}
use Rattle.trial_day.proofs.SummaryLaw.{is_summary}
use Rattle.trial_day.proofs.SummaryTexts.{puts_same}
use Rattle.trial_day.proofs.summary.put_summary.Goals as goal

pub returns-in_err-put_head-clause-text : goal.returns-in_err-put_head-clause-text
unfolding summary_of_journal
returns-in_err-put_head-clause-text g c = puts_first _ _ _ _ _ _ c.from_residual.ensures.0 (rw (c.message_count.ensures.count, c.len.ensures, c.move_count.ensures) at c.in_err-put_head.ensures)

pub returns-in_err-put_head-clause-summary : goal.returns-in_err-put_head-clause-summary
returns-in_err-put_head-clause-summary g c = λ seed batches low some small is legal complete.
    puts_same _ _ _ _ _ (is_summary c.args.setting.now.day seed batches c.args.journal.now.history low some small is legal complete) (returns-in_err-put_head-clause-text g c)

pub returns-clause-text : goal.returns-clause-text
unfolding summary_of_journal
returns-clause-text g c = puts_then _ _ _ _ _ _ _ (rw (c.message_count.ensures.count, c.len.ensures, c.move_count.ensures) at c.in_ok-put_head.ensures) c.put_holdings.ensures

pub returns-clause-summary : goal.returns-clause-summary
returns-clause-summary g c = λ seed batches low some small is legal complete.
    puts_same _ _ _ _ _ (is_summary c.args.setting.now.day seed batches c.args.journal.now.history low some small is legal complete) (returns-clause-text g c)
