use Rattle.std.proofs.Common.{◌∙◌}
use Rattle.day_page.proofs.MemberFacts.{none_counted}
use Rattle.day_page.proofs.members.counts_of.Goals as goal

pub count_all-requires-clause-none : goal.count_all-requires-clause-none
count_all-requires-clause-none c = none_counted _ _ (c.as_mut_slice.ensures.value ∙ c.in_ok-counts.ensures)
