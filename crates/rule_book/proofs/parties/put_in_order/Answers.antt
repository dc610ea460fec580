use Rattle.rule_book.proofs.PartyFacts.{sorted_lists}
use Rattle.rule_book.proofs.parties.put_in_order.Goals as goal

pub returns-clause-keeps : goal.returns-clause-keeps
returns-clause-keeps c = λ x. sorted_lists _ _ x c.sort_unstable.ensures.permutation
