use Rattle.std.proofs.Common.{◌∙◌, sym}
use Rattle.rule_book.proofs.ArrivingKeys.{adds_nothing}
use Rattle.rule_book.proofs.Summing.{clash}
use Rattle.rule_book.proofs.parties.push_message.Goals as goal

pub returns-else-is_informed-clause-more : goal.returns-else-is_informed-clause-more
returns-else-is_informed-clause-more c = adds_nothing c.args.n c.args.keys.now.items

pub returns-else-is_informed-clause-listed : goal.returns-else-is_informed-clause-listed
returns-else-is_informed-clause-listed c = λ h. absurd (clash _ h (sym c.is_informed.ensures ∙ c.if-is_informed.false))
