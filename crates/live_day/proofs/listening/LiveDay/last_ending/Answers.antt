use Rattle.std.proofs.Common.{subst}
use Rattle.std.specs.Prelude.{Option}
use Rattle.live_day.specs.Listened.{Stands}
use Rattle.live_day.specs.declared.endings.Ending.{Ending}
use Rattle.live_day.proofs.TakeFacts.{last_open, last_settled}
use Rattle.live_day.proofs.listening.LiveDay.last_ending.Goals as goal

pub finish-requires : goal.finish-requires
finish-requires g c = (c.requires.0, subst (λ (o : Option Ending). Stands g.D.Hearer.has_heard o c.args.self.now.reader c.requires.0) c.in-None.is c.requires.1.stands)

pub returns-in-Some : goal.returns-in-Some
returns-in-Some g c = λ input h. last_settled g.D.Hearer.has_heard _ input _ (subst (λ (o : Option Ending). Stands g.D.Hearer.has_heard o c.args.self.now.reader input) c.in-Some.is h.stands)

pub returns-in-None : goal.returns-in-None
returns-in-None g c = λ input h.
    let open_in = subst (λ (o : Option Ending). Stands g.D.Hearer.has_heard o c.args.self.now.reader input) c.in-None.is h.stands in
    last_open g.D.Hearer.has_heard c.args.self.now.reader input _ _ _ open_in (c.finish.ensures.told input open_in) (c.finish.ensures.ending input open_in)
