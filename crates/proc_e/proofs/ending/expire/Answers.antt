-- Without a reason the want has its line, which moves nothing.
use Rattle.std.proofs.Common.{◌∙◌, sym, refl}
use Rattle.proc_e.proofs.Reasons.{expire_line-is}
use Rattle.proc_e.proofs.ending.expire.Goals as goal

pub returns-in-None : goal.returns-in-None
returns-in-None g c = (expire_line-is _ _ _ _ _ c.requires.batch (sym c.why_not_expire.ensures ∙ c.in-None.is) c.head.ensures c.requires.empty, refl)
