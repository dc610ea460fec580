use Rattle.std.proofs.Common.{◌∙◌}
use Rattle.proc_b.proofs.OfB.{pending-is}
use Rattle.proc_b.proofs.Debtors.{holds_debtors}
use Rattle.proc_b.proofs.booking.why_waits.Goals as goal

pub first_blocked-requires-clause-pending : goal.first_blocked-requires-clause-pending
first_blocked-requires-clause-pending g c = pending-is (g.D.Desk.day c.args.desk.now) (g.D.Desk.past c.args.desk.now) c.args.n c.requires.batch ∙ c.requires.open

pub first_short-requires : goal.first_short-requires
first_short-requires g c = holds_debtors (g.D.Desk.held c.args.desk.now) (g.D.Desk.day c.args.desk.now) (g.D.Desk.past c.args.desk.now) c.args.n (g.D.Desk.legal c.args.desk.now) c.requires.batch c.requires.open c.requires.held
