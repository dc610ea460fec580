-- The End line, or the reasons of a bilateral entry.
use Rattle.std.proofs.Common.{◌∙◌, sym}
use Rattle.proc_e.proofs.Reasons.{why_over, why-is}
use Rattle.proc_e.proofs.booking.why_not_book.Goals as goal

pub returns-in-Some : goal.returns-in-Some
returns-in-Some g c = sym (why_over _ _ _ _ _ (sym c.ended.ensures ∙ c.in-Some.is))

pub returns-in-None : goal.returns-in-None
returns-in-None g c = c.why_not_pending.ensures ∙ sym (why-is _ _ _ _ c.requires.batch (sym c.ended.ensures ∙ c.in-None.is))
