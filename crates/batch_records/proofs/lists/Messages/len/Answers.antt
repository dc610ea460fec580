use Rattle.std.proofs.Common.{◌≡◌, ◌∙◌, ◌++◌, ◌∷◌, ◌-◌, [], ◌<◌, length, ap, sym}
use Rattle.batch_records.proofs.FlatFacts.{joined_length}
use Rattle.batch_records.proofs.lists.Messages.len.Goals as goal

pub returns : goal.returns
returns c = c.len.ensures ∙ c.self.inside.records.ok.0 ∙ sym (joined_length c.self.inside.records.items c.self.inside.entries.rows) ∙ ap length c.self.view_is
