use Rattle.proc_c.proofs.WantTables.{pending_is}
use Rattle.proc_c.proofs.booking.why_waits.Goals as goal

pub why_entry_waits-requires-clause-pending : goal.why_entry_waits-requires-clause-pending
why_entry_waits-requires-clause-pending g c = pending_is (g.D.Desk.day c.args.desk.now) (g.D.Desk.past c.args.desk.now) c.args.n c.args.k c.args.entry.now c.requires.batch c.requires.there c.requires.open c.requires.unbooked
