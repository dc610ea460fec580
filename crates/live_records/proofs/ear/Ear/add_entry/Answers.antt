use Rattle.live_records.proofs.EarRoom.{entry_fits, entry_room}
use Rattle.live_records.proofs.ear.Ear.add_entry.Goals as goal

pub push-requires : goal.push-requires
push-requires c = entry_room c.args.self.now c.args.day.now c.args.entry c.requires

pub unless_open-requires : goal.unless_open-requires
unless_open-requires c = rw c.push.ensures (entry_fits c.args.self.now c.args.day.now c.args.entry c.requires)

pub returns-clause-spoken : goal.returns-clause-spoken
returns-clause-spoken c = rw c.push.ensures at c.unless_open.ensures.spoken
