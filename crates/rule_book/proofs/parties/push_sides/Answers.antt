use Rattle.std.proofs.Common.{◌∙◌, ◌||◌, arith}
use Rattle.std.specs.Prelude.{nat_eq}
use Rattle.rule_book.proofs.ArrivingKeys.{adds_then, both_sides}
use Rattle.rule_book.proofs.parties.push_sides.Goals as goal

pub push_side-requires : goal.push_side-requires
push_side-requires c = omega (arith, c.requires)

pub push_side-requires-2 : goal.push_side-requires-2
push_side-requires-2 c = omega (arith, c.requires, c.push_side.ensures.len, c.push_side.ensures.capacity)

pub returns-clause-more : goal.returns-clause-more
returns-clause-more c = adds_then c.args.n c.args.keys.now.items c.push_side.new.keys.items c.push_side-2.new.keys.items c.push_side.ensures.more c.push_side-2.ensures.more

pub returns-clause-listed : goal.returns-clause-listed
returns-clause-listed c = λ b some h.
    both_sides c.args.n c.args.k c.owner_at.result c.owner_at-2.result b c.push_side.new.keys.items c.push_side-2.new.keys.items c.push_side.ensures.listed c.push_side-2.ensures.listed c.push_side-2.ensures.more.keeps some
    ((λ i. nat_eq (c.owner_at.ensures i) b || nat_eq (c.owner_at-2.ensures i) b) ∙ h)

pub returns-clause-len : goal.returns-clause-len
returns-clause-len c = omega (arith, c.push_side.ensures.len, c.push_side-2.ensures.len)
