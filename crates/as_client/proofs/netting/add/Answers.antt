use Rattle.std.proofs.Common.{ap, ◌∙◌}
use Rattle.std.specs.Map.{keys_of}
use Rattle.indexmap.specs.IndexMap.{keys}
use Rattle.as_client.specs.Turnovers.{with_name}
use Rattle.as_client.proofs.NameFacts.{keys-insert}
use Rattle.as_client.proofs.netting.add.Goals as goal

pub returns-clause-names : goal.returns-clause-names
returns-clause-names c = ap keys_of c.in_ok-insert_last.ensures.entries ∙ keys-insert c.args.turnovers.now.entries c.copy.result _ ∙ ap (with_name (keys c.args.turnovers.now)) c.copy.ensures
