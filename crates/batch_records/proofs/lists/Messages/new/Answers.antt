use Rattle.std.proofs.Common.{◌≡◌, ◌∙◌, ◌++◌, ◌∷◌, ◌-◌, [], ◌<◌, ap}
use Rattle.batch_records.proofs.FlatFacts.{none_joined, none_rows}
use Rattle.batch_records.proofs.lists.Messages.new.Goals as goal

pub invariant_of-result : goal.invariant_of-result
invariant_of-result c = none_rows _ _ c.new.ensures.items (ap (λ r. r.rows) c.new-2.ensures)

pub returns : goal.returns
returns c = none_joined _ _ c.new.ensures.items
