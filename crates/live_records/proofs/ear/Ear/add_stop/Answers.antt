use Rattle.std.proofs.Common.{refl}
use Rattle.live_records.proofs.EarRoom.{stop_fits, stop_room}
use Rattle.live_records.proofs.ear.Ear.add_stop.Goals as goal

pub stop_in_room-requires : goal.stop_in_room-requires
stop_in_room-requires c = stop_room c.args.self.now c.args.day.now c.args.stop c.requires

pub returns-clause-spoken : goal.returns-clause-spoken
returns-clause-spoken c = (refl, c.stop_in_room.ensures, refl)

pub returns-clause-fits : goal.returns-clause-fits
returns-clause-fits c = rw c.stop_in_room.ensures (stop_fits c.args.self.now c.args.day.now c.args.stop c.requires)
