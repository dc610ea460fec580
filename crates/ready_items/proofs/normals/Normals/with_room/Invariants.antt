use Rattle.std.proofs.Common.{◌≡◌, ℕ, ◌+◌, None, length}
use Rattle.ready_items.specs.Normals.{HavePayments, IsPayment, amount_of}
use Rattle.ready_items.proofs.normals.Normals.with_room.Given as goal

abbrev pub invariant-loop-before : goal.invariant-loop-before
invariant-loop-before l = record {
  have : HavePayments l.setting.day l.before l.normals;
  none : (n : ℕ) → IsPayment l.setting.day l.before n → amount_of l.setting.day l.normals n ≡ None;
  room : l.normals.room + l.before ≡ length l.setting.day.messages;
}
