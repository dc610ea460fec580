use Rattle.cash_amounts.specs.Numbers.{numbered}
use Rattle.live_day.specs.LiveFloors.{HasMade}
use Rattle.settle_floor.specs.Floors.{AtWork}
use Rattle.live_tests.specs.GrowingDays.{IsFront}
use Rattle.live_tests.proofs.settle_floor_tests.wrong_event.Given as goal

-- so much of the whole day has come
abbrev pub invariant-loop-at : goal.invariant-loop-at
invariant-loop-at g l = record {
  front : IsFront l.whole.day l.own.day;
  made : HasMade l.own.day l.floor (numbered l.till);
  wide : AtWork l.whole.day l.wide (numbered l.wide_till);
}
