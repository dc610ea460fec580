use Rattle.std.proofs.Common.{◌≡◌, ◌<◌}
use Rattle.pending_items.specs.Items.{RenewsBy}
use Rattle.pending_items.proofs.rows.ItemRows.renew_message.Given as goal

-- the items before k have been looked at
abbrev pub invariant-loop-k : goal.invariant-loop-k
invariant-loop-k l = RenewsBy l.setting.day l.facts (λ J x. (x.msg ≡ l.n) × (x.entry < l.k)) l.initial.self l.self
