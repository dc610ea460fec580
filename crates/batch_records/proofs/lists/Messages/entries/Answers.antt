use Rattle.std.proofs.Common.{◌≡◌, ◌∙◌, ◌++◌, ◌∷◌, ◌-◌, [], ◌<◌, ap, sym}
use Rattle.batch_records.specs.Parts.{entries_at}
use Rattle.batch_records.proofs.FlatFacts.{joined_entries}
use Rattle.batch_records.proofs.lists.Messages.entries.Goals as goal

pub returns : goal.returns
returns c = c.row.ensures ∙ sym (joined_entries c.self.inside.records.items c.self.inside.entries.rows c.args.i c.self.invariant) ∙ ap (λ ms. entries_at ms c.args.i) c.self.view_is
