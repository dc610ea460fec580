use Rattle.due_items.proofs.LongerFacts.{still_kept}
use Rattle.due_items.proofs.laws.what_follows_makes_nothing_due.Goals as goal

pub returns : goal.returns
returns c = still_kept
