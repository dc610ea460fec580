use Rattle.std.proofs.Common.{◌≡◌, true, Some, rules}
use Rattle.machine.specs.Records.Messages.{entry_at}
use Rattle.machine.specs.Stages.Phases.{phase, is_open}
use Rattle.proc_c.proofs.Held.{held_for_book}
use Rattle.proc_c.proofs.booking.why_not_book.Goals as goal

pub why_waits-requires-clause-held : goal.why_waits-requires-clause-held
why_waits-requires-clause-held g c =
    let day = g.D.Desk.day c.args.desk.now in
    let past = g.D.Desk.past c.args.desk.now in
    let open_now : is_open (phase day past c.args.n) ≡ true = search rules in
    let there : entry_at day c.args.n c.args.k ≡ Some c.in-Some-entry.entry.now = search rules in
    held_for_book (g.D.Desk.held c.args.desk.now) day past c.args.n c.args.k c.in-Some-entry.entry.now (g.D.Desk.legal c.args.desk.now) c.requires.batch open_now there c.requires.held
