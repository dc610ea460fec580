use Rattle.std.proofs.Common.{◌∙◌}
use Rattle.rule_book.proofs.PartyFacts.{any_party}
use Rattle.rule_book.proofs.parties.takes_part.Goals as goal

pub returns-in-Some : goal.returns-in-Some
returns-in-Some c = c.is_party_in.ensures ∙ any_party c.args.setting.now.day c.args.n c.args.bank.now c.in-Some.keys.now c.in-Some.ensures
