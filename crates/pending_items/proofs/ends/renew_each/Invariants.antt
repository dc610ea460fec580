use Rattle.std.proofs.Common.{◌≡◌, ◌-◌, ◌<◌, true, length}
use Rattle.least_tree.specs.Amounts.{fits_at}
use Rattle.pending_items.specs.Items.{RenewsBy}
use Rattle.pending_items.proofs.EndFacts.{AreMovedTo}
use Rattle.pending_items.proofs.ends.renew_each.Given as goal

-- the messages below `from` have been looked at
abbrev pub invariant-loop-n : goal.invariant-loop-n
invariant-loop-n l = record {
  rows : RenewsBy l.setting.day l.facts (λ J x. (x.msg < l.from) × (fits_at l.initial.ends.times l.time x.msg ≡ true)) l.initial.rows l.rows;
  ends : AreMovedTo l.setting.day l.time l.from l.initial.ends.times l.ends.times;
  room : l.ends.room ≡ l.initial.ends.room;
}

abbrev pub decreases-loop-n : goal.decreases-loop-n
decreases-loop-n l = length l.ends.times - l.from
