-- An entry that is neither booked nor revoked is pending, and its debit account is at hand.
use Rattle.std.proofs.Common.{◌≡◌, true, Some, None, subst, rules}
use Rattle.machine.specs.Records.Messages.{entry_at}
use Rattle.machine.specs.Stages.Phases.{is_open, phase}
use Rattle.machine.specs.Telling.History.{booked}
use Rattle.machine.specs.Telling.Facts.{revoked}
use Rattle.proc_e.proofs.Entries.{is_pending_entry, is_held}
use Rattle.proc_e.proofs.booking.why_not_pending.Goals as goal

pub why_entry_waits-requires-clause-pending : goal.why_entry_waits-requires-clause-pending
why_entry_waits-requires-clause-pending g c =
    let there : entry_at (g.D.Desk.day c.args.desk.now) c.args.n c.args.k ≡ Some c.in-Some.entry.now = subst (λ d. entry_at d c.args.n c.args.k ≡ Some c.in-Some.entry.now) c.setting.ensures c.in-Some.ensures in
    let open_now : is_open (phase (g.D.Desk.day c.args.desk.now) (g.D.Desk.past c.args.desk.now) c.args.n) ≡ true = search rules in
    let fresh : booked (g.D.Desk.past c.args.desk.now) c.args.n c.args.k ≡ None = search rules in
    let kept : revoked (g.D.Desk.day c.args.desk.now) (g.D.Desk.past c.args.desk.now) c.args.n c.args.k ≡ None = search rules in
    is_pending_entry _ _ _ _ _ c.requires.batch there open_now fresh kept

pub why_entry_waits-requires-clause-held : goal.why_entry_waits-requires-clause-held
why_entry_waits-requires-clause-held g c =
    let there : entry_at (g.D.Desk.day c.args.desk.now) c.args.n c.args.k ≡ Some c.in-Some.entry.now = subst (λ d. entry_at d c.args.n c.args.k ≡ Some c.in-Some.entry.now) c.setting.ensures c.in-Some.ensures in
    let open_now : is_open (phase (g.D.Desk.day c.args.desk.now) (g.D.Desk.past c.args.desk.now) c.args.n) ≡ true = search rules in
    is_held _ _ _ _ _ _ (g.D.Desk.legal c.args.desk.now) c.requires.batch c.requires.held there open_now
