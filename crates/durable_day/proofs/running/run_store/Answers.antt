use Rattle.std.proofs.Common.{refl, sym, subst, inl, inr}
use Rattle.disk_model.specs.Memory.{MemoryDisk, disk_seen}
use Rattle.durable_day.specs.Running.{IsAtItsEnd}
use Rattle.durable_day.proofs.DiskFacts.{ended_with, went_on}
use Rattle.durable_day.proofs.running.run_store.Goals as goal

pub returns-in-Ok : goal.returns-in-Ok
returns-in-Ok g c = λ calls ready.
    let ends = subst (λ (d : MemoryDisk). IsAtItsEnd calls c.args.store.day c.args.store.history (disk_seen c.args.store.disk) (disk_seen d)) (sym c.close-disk.ensures.disk) (ended_with calls c.args.store c.in-Ok.store ready c.in-Ok.ensures.goes_on) in
    (record { status = 0; text = disk_seen c.close-disk.result.1 }, inl (refl, ends), c.say_disk.ensures)

pub returns-in-Err : goal.returns-in-Err
returns-in-Err g c = λ calls ready.
    (record { status = 8; text = disk_seen c.in-Err.disk }, inr (refl, went_on calls c.args.store c.in-Err.disk ready c.in-Err.ensures.goes_on), c.say_disk-in-Err.ensures)
