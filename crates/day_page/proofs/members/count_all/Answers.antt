use Rattle.std.proofs.Common.{◌∙◌, List, ℕ, ap, arith, length}
use Rattle.std.proofs.lemmas.List.{take_all}
use Rattle.day_page.specs.Members.{counted}
use Rattle.day_page.proofs.MemberFacts.{count_more}
use Rattle.day_page.proofs.members.count_all.Goals as goal

pub loop-a-preserved : goal.loop-a-preserved
loop-a-preserved c = count_more c.args.members.now c.loop-a.a-index (length c.args.counts.now) _ _ c.loop-a-test.true c.requires.few c.loop-a.invariant c.count_one.ensures

pub returns : goal.returns
returns c = c.loop-a.invariant ∙ ap (λ (members : List ℕ). counted members (length c.args.counts.now)) (take_all c.loop-a.a-index c.args.members.now (omega (arith, c.loop-a-test.false)))
