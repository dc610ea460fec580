use Rattle.batch_records.proofs.AmountFacts.{amount_found, amount_meant}
use Rattle.batch_records.proofs.laws.amounts_are_of_the_grammar.Goals as goal

pub returns : goal.returns
returns c = λ text cents. (amount_meant text cents, amount_found text cents)
