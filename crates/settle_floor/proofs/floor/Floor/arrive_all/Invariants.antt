use Rattle.std.proofs.Common.{◌≡◌, ◌≤◌, length}
use Rattle.settle_floor.specs.Room.{HasCome}
use Rattle.settle_floor.proofs.floor.Floor.arrive_all.Given as goal

-- the messages so far have come
abbrev pub invariant-loop-before : goal.invariant-loop-before
invariant-loop-before l = record {
  journal : l.self.journal ≡ l.initial.self.journal;
  come : HasCome l.setting.day l.before l.self;
  within : l.before ≤ length l.setting.day.messages;
}
