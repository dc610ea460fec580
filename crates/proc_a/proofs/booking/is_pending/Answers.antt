use Rattle.std.proofs.Common.{◌∙◌, sym}
use Rattle.proc_a.proofs.Entries.{pending-is}
use Rattle.proc_a.proofs.booking.is_pending.Goals as goal

pub returns : goal.returns
returns g c = c.is_next_in_phase.ensures ∙ sym (pending-is _ _ c.args.n c.args.k c.requires)
