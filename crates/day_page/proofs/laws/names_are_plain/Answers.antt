use Rattle.day_page.proofs.PlainFacts.{ids_plain, names_plain}
use Rattle.day_page.proofs.laws.names_are_plain.Goals as goal

pub returns-clause-names : goal.returns-clause-names
returns-clause-names c = names_plain

pub returns-clause-ids : goal.returns-clause-ids
returns-clause-ids c = ids_plain
