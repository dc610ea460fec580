use Rattle.ready_items.proofs.ShowFacts.{shown_next}
use Rattle.ready_items.proofs.laws.shown_is_next.Goals as goal

pub returns : goal.returns
returns c = shown_next
