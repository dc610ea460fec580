-- An entry may be booked where nothing stands against it.
use Rattle.std.proofs.Common.{◌∙◌, sym, ap}
use Rattle.std.specs.Prelude.{is_none}
use Rattle.settlement_laws.proofs.Wants.Answering.{none_is}
use Rattle.proc_e.proofs.Numbering.{held_entry}
use Rattle.proc_e.proofs.Reasons.{may_book-is}
use Rattle.proc_e.proofs.booking.may_book.Goals as goal

pub why_not_pending-requires-clause-held : goal.why_not_pending-requires-clause-held
why_not_pending-requires-clause-held g c =
    held_entry (g.D.Desk.held c.args.desk.now) (g.D.Desk.day c.args.desk.now) c.args.n c.args.k c.requires.batch c.requires.held

pub returns : goal.returns
returns g c = none_is c.why_not_pending.result c.is_none.result c.is_none.ensures ∙ ap is_none c.why_not_pending.ensures ∙ sym (may_book-is _ _ _ _ c.requires.batch)
