use Rattle.std.proofs.Common.{◌∙◌, ap, sym}
use Rattle.live_day.proofs.ComparingFacts.{keeps_back}
use Rattle.live_day.proofs.PlaceFacts.{handed_more, place_stays}
use Rattle.live_day.proofs.comparing.ComparingSink.write.Goals as goal

pub returns-then-not-is_beyond-clause-passed : goal.returns-then-not-is_beyond-clause-passed
returns-then-not-is_beyond-clause-passed g c =
    keeps_back _ _ _ _ _ _ _ _ _ c.compare.ensures.same_reference c.compare.ensures.wanted c.compare.ensures.more (sym c.is_beyond.ensures ∙ c.if-not-is_beyond.true) (ap (λ s. (g.S.Sink.state s).layers) c.compare.ensures.same)

pub invariant_of-self : goal.invariant_of-self
invariant_of-self g c =
    let beyond = sym c.is_beyond.ensures ∙ c.if-not-is_beyond.false in
    let place = place_stays _ _ _ _ beyond c.add_all.ensures in
    record {
      at_is = c.args.self.now.at_is ∙ place.0;
      differs_is = c.args.self.now.differs_is ∙ place.1;
      handed = handed_more _ _ _ _ _ _ _ beyond c.add_all.ensures c.args.self.now.handed c.in-Ok.ensures.bytes;
    }
