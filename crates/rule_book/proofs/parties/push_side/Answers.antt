use Rattle.std.proofs.Common.{arith, refl}
use Rattle.std.specs.Prelude.{nat_eq}
use Rattle.std.proofs.lemmas.Bool.{eq-eqb}
use Rattle.rule_book.proofs.ArrivingKeys.{adds_key, adds_nothing, key_there}
use Rattle.rule_book.proofs.Summing.{clash}
use Rattle.rule_book.proofs.parties.push_side.Goals as goal

pub returns-then-bank-ne0-clause-more : goal.returns-then-bank-ne0-clause-more
returns-then-bank-ne0-clause-more c =
    adds_key c.args.n c.args.bank c.args.k c.key.result c.args.keys.now.items c.push_reserved.new.self.items (omega (arith, c.ranges.bank)) (omega (arith, c.ranges.k)) c.key.ensures c.push_reserved.ensures.items

pub returns-then-bank-ne0-clause-listed : goal.returns-then-bank-ne0-clause-listed
returns-then-bank-ne0-clause-listed c = λ some. key_there c.args.n c.args.bank c.args.k c.key.result c.args.keys.now.items c.push_reserved.new.self.items c.key.ensures c.push_reserved.ensures.items

pub returns-else-bank-ne0-clause-more : goal.returns-else-bank-ne0-clause-more
returns-else-bank-ne0-clause-more c = adds_nothing c.args.n c.args.keys.now.items

pub returns-else-bank-ne0-clause-listed : goal.returns-else-bank-ne0-clause-listed
returns-else-bank-ne0-clause-listed c = λ some. absurd (clash (nat_eq c.args.bank 0) (eq-eqb c.args.bank 0 c.if-bank-ne0.false) some)

pub returns-then-bank-ne0-clause-len : goal.returns-then-bank-ne0-clause-len
returns-then-bank-ne0-clause-len c = omega (arith, c.push_reserved.ensures.len)

pub returns-then-bank-ne0-clause-capacity : goal.returns-then-bank-ne0-clause-capacity
returns-then-bank-ne0-clause-capacity c = c.push_reserved.ensures.capacity

pub returns-else-bank-ne0-clause-len : goal.returns-else-bank-ne0-clause-len
returns-else-bank-ne0-clause-len c = omega arith

pub returns-else-bank-ne0-clause-capacity : goal.returns-else-bank-ne0-clause-capacity
returns-else-bank-ne0-clause-capacity c = refl
