use Rattle.live_records.proofs.EarRoom.{close_entries, close_fits, close_message}
use Rattle.live_records.proofs.ear.Ear.close.Goals as goal

pub move_to-requires-clause-message : goal.move_to-requires-clause-message
move_to-requires-clause-message c = close_message c.args.self.now c.args.day.now c.requires.fits c.requires.some

pub move_to-requires-clause-entries : goal.move_to-requires-clause-entries
move_to-requires-clause-entries c = close_entries c.args.self.now c.args.day.now c.requires.fits

pub returns-clause-fits : goal.returns-clause-fits
returns-clause-fits c = rw (c.move_to.ensures.day, c.move_to.ensures.none, c.end_batch.ensures) (close_fits c.args.self.now c.args.day.now c.requires.fits c.requires.some)
