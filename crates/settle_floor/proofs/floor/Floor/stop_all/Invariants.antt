use Rattle.std.proofs.Common.{◌≡◌}
use Rattle.settle_floor.specs.Floors.{IsFor}
use Rattle.settle_floor.specs.Room.{up_to_stop}
use Rattle.settle_floor.proofs.floor.Floor.stop_all.Given as goal

-- the stops so far have come
abbrev pub invariant-loop-at : goal.invariant-loop-at
invariant-loop-at l = record {
  journal : l.self.journal ≡ l.initial.self.journal;
  opened : IsFor (up_to_stop l.setting.day l.at) l.self;
}
