use Rattle.std.proofs.Common.{◌∙◌, arith, false, refl, sym}
use Rattle.day_facts.proofs.Lists.{change_past, change_set}
use Rattle.day_facts.proofs.flags.lower.Goals as goal

pub returns-then-i-bound : goal.returns-then-i-bound
returns-then-i-bound c = c.remove.ensures ∙ change_set c.args.i (λ flag. false) c.args.items.now false _ (omega (arith, c.if-i-bound.true, c.bound.ensures)) refl

pub returns-else-i-bound : goal.returns-else-i-bound
returns-else-i-bound c = sym (change_past c.args.i (λ flag. false) c.args.items.now (omega (arith, c.if-i-bound.false, c.bound.ensures)))
