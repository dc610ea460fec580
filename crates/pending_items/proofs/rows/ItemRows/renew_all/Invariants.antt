use Rattle.std.proofs.Common.{◌≤◌}
use Rattle.pending_items.specs.Items.{RenewsBy}
use Rattle.pending_items.proofs.rows.ItemRows.renew_all.Given as goal

abbrev pub invariant-loop-before : goal.invariant-loop-before
invariant-loop-before l = RenewsBy l.setting.day l.facts (λ J x. x.msg ≤ l.before) l.initial.self l.self
