use Rattle.std.proofs.Common.{◌∙◌, subst, sym}
use Rattle.day_facts.specs.Facts.{StandsFor}
use Rattle.day_facts.proofs.Standing.{revoked_stands}
use Rattle.day_facts.proofs.facts.DayFacts.revoked.Goals as goal

pub returns : goal.returns
returns c = λ J s. c.revoked_at.ensures ∙ revoked_stands c.args.setting.now.day J _ c.args.n c.args.k (subst (StandsFor c.args.setting.now.day J) (sym c.self.view_is) s)
