use Rattle.std.proofs.Common.{◌≡◌}
use Rattle.pending_items.specs.Ends.{AreMovedOn, IsMovedOn}
use Rattle.pending_items.specs.Items.{RenewsBy}
use Rattle.pending_items.proofs.ends.renew_listed.Given as goal

abbrev pub invariant-loop-i : goal.invariant-loop-i
invariant-loop-i l = record {
  rows : RenewsBy l.setting.day l.facts (λ J x. IsMovedOn l.time l.initial.ends.times l.ends.times x.msg) l.initial.rows l.rows;
  ends : AreMovedOn l.setting.day l.time l.initial.ends.times l.ends.times;
  room : l.ends.room ≡ l.initial.ends.room;
}
