use Rattle.std.proofs.Common.{subst}
use Rattle.rule_book.specs.Parties.{IsPlace, key}
use Rattle.rule_book.proofs.parties.party_place.Goals as goal

pub returns-in-Some-clause-own : goal.returns-in-Some-clause-own
returns-in-Some-clause-own c =
    subst (λ b. IsPlace c.args.setting.now.tables.parties.keys (key c.args.n b 0) c.start.result) c.in-Some.ensures.number c.start.ensures
