use Rattle.std.proofs.Common.{◌∙◌, ap, sym}
use Rattle.rule_book.specs.Parties.{is_joined}
use Rattle.rule_book.proofs.ArrivingKeys.{adds_nothing, none_joined}
use Rattle.rule_book.proofs.parties.push_entry.Goals as goal

pub returns-in-Some-clause-listed : goal.returns-in-Some-clause-listed
returns-in-Some-clause-listed c = λ b some h. c.push_sides.ensures.listed b some (ap (is_joined c.args.numbers.now b) (sym c.in-Some.is) ∙ h)

pub returns-in-None-clause-more : goal.returns-in-None-clause-more
returns-in-None-clause-more c = adds_nothing c.args.n c.args.keys.now.items

pub returns-in-None-clause-listed : goal.returns-in-None-clause-listed
returns-in-None-clause-listed c = λ b some h. absurd (none_joined c.args.numbers.now b c.args.found c.in-None.is h)
