use Rattle.status_messages.proofs.RejectedEntries.{entries_of_d_are_told}
use Rattle.status_messages.proofs.laws.entries_of_d_are_told.Goals as goal

pub returns : goal.returns
returns c = entries_of_d_are_told
