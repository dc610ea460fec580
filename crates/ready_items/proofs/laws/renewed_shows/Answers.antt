use Rattle.ready_items.proofs.ShowFacts.{shows_ready}
use Rattle.ready_items.proofs.laws.renewed_shows.Goals as goal

pub returns : goal.returns
returns c = shows_ready
