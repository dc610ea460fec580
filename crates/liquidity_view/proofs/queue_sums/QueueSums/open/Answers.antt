use Rattle.liquidity_view.proofs.CountFacts.{none_adds_up, none_pending}
use Rattle.liquidity_view.proofs.queue_sums.QueueSums.open.Goals as goal

pub returns-in-Ok : goal.returns-in-Ok
returns-in-Ok c = λ name.
    let day = c.args.setting.now.day in
    let first = c.in_ok-due.ensures in
    record {
      facts = c.in-Ok.ensures;
      due = first.due;
      sums = none_adds_up day name _ first.counted first.few;
      exact = λ i low. none_pending day _ first.counted i;
    }
