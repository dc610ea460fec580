use Rattle.std.proofs.Common.{◌≡◌, ◌+◌, ◌-◌, ◌<◌, ◌≤◌, true, length}
use Rattle.commit_journal.specs.Line.{History}
use Rattle.day_facts.specs.Facts.{StandsFor}
use Rattle.number_set.specs.Members.{has}
use Rattle.pending_items.specs.Items.{RenewsBy}
use Rattle.pending_items.proofs.CycleFacts.{AreLeftTo}
use Rattle.pending_items.proofs.cycles.renew_block.Given as goal

-- the numbers below `from` have been looked at
abbrev pub invariant-loop-i : goal.invariant-loop-i
invariant-loop-i l = record {
  rows : RenewsBy l.setting.day l.facts (λ J x. (l.first + x.msg < l.from) × (has l.initial.batches (l.first + x.msg) ≡ true)) l.initial.rows l.rows;
  low : l.first ≤ l.from;
  left : (J : History) → StandsFor l.setting.day J l.facts → AreLeftTo l.setting.day J l.size l.first l.from l.initial.batches l.batches;
}

abbrev pub decreases-loop-i : goal.decreases-loop-i
decreases-loop-i l = length l.batches - l.from
