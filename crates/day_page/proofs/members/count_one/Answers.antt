use Rattle.std.proofs.Common.{arith, sym}
use Rattle.day_facts.proofs.Lists.{change_past, change_set}
use Rattle.day_page.specs.Members.{once_more}
use Rattle.day_page.proofs.members.count_one.Goals as goal

pub returns-then-i-counts : goal.returns-then-i-counts
returns-then-i-counts c = sym (change_past c.args.a once_more c.args.counts.now (omega (arith, c.if-i-counts.true)))

pub returns : goal.returns
returns c = change_set c.args.a once_more c.args.counts.now 0 _ (omega (arith, c.if-i-counts.false)) c.saturating_add.ensures
