use Rattle.std.proofs.Common.{◌≡◌, ◌∙◌, true, false, refl, sym}
use Rattle.batch_records.specs.Flat.{has_entries}
use Rattle.live_records.proofs.EarRoom.{begun_fits, record_fits, room_for_message}
use Rattle.live_records.proofs.ear.Ear.add_message.Goals as goal

pub unless_open-requires : goal.unless_open-requires
unless_open-requires c = rw c.begin.ensures (begun_fits c.args.self.now c.args.day.now c.args.message c.requires (sym c.is_batch_body.ensures ∙ c.if-is_batch_body.true))

pub returns-then-is_batch_body-clause-spoken : goal.returns-then-is_batch_body-clause-spoken
returns-then-is_batch_body-clause-spoken c =
    let has : has_entries c.args.message.body ≡ true = sym c.is_batch_body.ensures ∙ c.if-is_batch_body.true in rw has (rw c.begin.ensures at c.unless_open.ensures.spoken)

pub push_in_room-requires : goal.push_in_room-requires
push_in_room-requires c = room_for_message 0 0 0 c.args.self.now c.args.day.now c.requires.2

pub returns-else-is_batch_body-clause-spoken : goal.returns-else-is_batch_body-clause-spoken
returns-else-is_batch_body-clause-spoken c = let has : has_entries c.args.message.body ≡ false = sym c.is_batch_body.ensures ∙ c.if-is_batch_body.false in rw has (refl, c.push_in_room.ensures, refl)

pub returns-else-is_batch_body-clause-fits : goal.returns-else-is_batch_body-clause-fits
returns-else-is_batch_body-clause-fits c = rw c.push_in_room.ensures (record_fits c.args.self.now c.args.day.now c.args.message c.requires (sym c.is_batch_body.ensures ∙ c.if-is_batch_body.false))
