use Rattle.durable_day.proofs.DiskFacts.{fresh_by, says_or_back}
use Rattle.durable_day.proofs.running.run_rest.Goals as goal

pub returns-in-Ok : goal.returns-in-Ok
returns-in-Ok g c =
    let fresh = fresh_by c.args.rest _ _ _ _ c.args.calls c.in-Ok.disk c.room_for-room.ensures.count c.records_for-records.ensures.count c.in-Ok.ensures in
    rw c.status_of.ensures (says_or_back g.S.Sink.state c.args.output.now c.run_disk.new.output _ c.run_disk.result (c.run_disk.ensures c.args.calls c.args.rest fresh))
