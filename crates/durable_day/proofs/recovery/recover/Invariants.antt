use Rattle.std.proofs.Common.{◌≡◌, ◌*◌, true, [], length, drop}
use Rattle.cash_amounts.specs.Numbers.{numbered}
use Rattle.settle_floor.specs.Floors.{AtWork}
use Rattle.durable_day.specs.Pieces.{room_size}
use Rattle.durable_day.specs.Reads.{ReadsOnly}
use Rattle.durable_day.proofs.WalkFacts.{IsWalked}
use Rattle.durable_day.proofs.recovery.recover.Given as goal

abbrev pub invariant-lines : goal.invariant-lines
invariant-lines g l = record {
  walked : IsWalked l.setting.day (g.D.Disk.seen l.initial.disk) l.floor.journal.history l.at l.lines;
  at_work : AtWork l.setting.day l.floor (numbered l.till);
  moves : l.moves ≡ record { moves = []; room = 50000 };
  room : length l.text ≡ room_size;
  reads : ReadsOnly g.D.Disk.seen g.D.Disk.image g.D.Disk.clock g.D.Disk.since g.D.Disk.lasts g.D.Disk.faults g.D.Disk.cut_after l.initial.disk l.disk true (3 * l.lines);
  faults : g.D.Disk.faults l.disk ≡ g.D.Disk.faults l.initial.disk;
}

abbrev pub decreases-lines : goal.decreases-lines
decreases-lines g l = length (drop l.at (g.D.Disk.seen l.initial.disk))
