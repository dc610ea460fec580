use Rattle.std.proofs.Common.{ap, length, ◌∙◌}
use Rattle.trial_day.proofs.SummaryTexts.{moves_are}
use Rattle.trial_day.proofs.summary.move_count.Goals as goal

pub returns : goal.returns
returns c = ap length c.moves.ensures ∙ moves_are c.args.journal.now.history
