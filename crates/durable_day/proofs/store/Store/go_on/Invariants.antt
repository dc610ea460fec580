use Rattle.std.proofs.Common.{◌≡◌, ◌-◌, length}
use Rattle.machine.specs.Telling.History.{is_ended}
use Rattle.durable_day.specs.Onward.{gone_on}
use Rattle.durable_day.specs.Stores.{IsStore}
use Rattle.durable_day.proofs.UnderwayFacts.{IsUnderway}
use Rattle.durable_day.proofs.store.Store.go_on.Given as goal

abbrev pub invariant-lines : goal.invariant-lines
invariant-lines g l = record {
  way : IsUnderway g.D.Disk.seen g.D.Disk.clock g.D.Disk.since g.D.Disk.lasts g.D.Disk.cut_after g.D.Disk.faults l.fn.self l.store;
  known : IsStore g.D.Disk.seen g.D.Disk.image l.store;
  ended : l.ended ≡ is_ended l.store.history;
}

abbrev pub decreases-lines : goal.decreases-lines
decreases-lines g l = length (gone_on l.fn.self.day l.fn.self.history) - length l.store.history
