use Rattle.std.proofs.Common.{◌∙◌, ap}
use Rattle.batch_records.specs.Growing.{entries_of}
use Rattle.batch_records.specs.Held.{HeldMessages}
use Rattle.batch_records.proofs.FlatFacts.{joined_sum}
use Rattle.batch_records.proofs.held.HeldMessages.entry_count.Goals as goal

pub returns : goal.returns
returns c = c.item_count.ensures ∙ joined_sum c.self.inside.records.items c.self.inside.entries.rows c.self.invariant.0 ∙ ap (λ (h : HeldMessages). entries_of h.list) c.self.view_is
