use Rattle.std.proofs.Common.{◌∙◌, ap, map}
use Rattle.batch_records.specs.Flat.{without_entries}
use Rattle.batch_records.specs.Held.{HeldMessages}
use Rattle.batch_records.proofs.FlatFacts.{joined_records}
use Rattle.batch_records.proofs.held.HeldMessages.records.Goals as goal

pub returns : goal.returns
returns c = c.as_slice.ensures.value ∙ joined_records c.self.inside.records.items c.self.inside.entries.rows ∙ ap (λ (h : HeldMessages). map without_entries h.list) c.self.view_is
