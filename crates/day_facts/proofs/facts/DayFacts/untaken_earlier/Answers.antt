use Rattle.std.proofs.Common.{◌∙◌, subst, sym}
use Rattle.day_facts.specs.Facts.{StandsFor}
use Rattle.day_facts.proofs.Earlier.{earlier_stands, none_earlier}
use Rattle.day_facts.proofs.facts.DayFacts.untaken_earlier.Goals as goal

pub returns : goal.returns
returns c = λ J s. c.awaited.ensures ∙ earlier_stands c.args.setting.now.day J _ c.args.n (subst (StandsFor c.args.setting.now.day J) (sym c.self.view_is) s)

pub returns-then-follows_its_sender : goal.returns-then-follows_its_sender
returns-then-follows_its_sender c = λ J s.
    sym (none_earlier c.args.setting.now.day J _ c.args.n c.args.setting.now.sound (subst (StandsFor c.args.setting.now.day J) (sym c.self.view_is) s) (c.follows_its_sender.ensures c.if-follows_its_sender.true))
