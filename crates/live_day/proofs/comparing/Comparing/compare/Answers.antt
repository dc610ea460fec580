use Rattle.std.proofs.Common.{ap, ℕ, Bool}
use Rattle.live_day.proofs.PlaceFacts.{before_beyond, place_more, still_handed}
use Rattle.live_day.proofs.comparing.Comparing.compare.Goals as goal

pub next_place-at-requires : goal.next_place-at-requires
next_place-at-requires g c = before_beyond _ _ _ _ c.args.self.now.at_is c.args.self.now.differs_is c.requires

pub invariant_of-self : goal.invariant_of-self
invariant_of-self g c =
    let place = place_more _ _ _ _ _ c.args.byte _ c.args.self.now.at_is c.args.self.now.differs_is c.requires c.add.ensures c.next_place-at.ensures in
    record {
      at_is = ap (λ (p : ℕ × Bool). p.0) place;
      differs_is = ap (λ (p : ℕ × Bool). p.1) place;
      handed = still_handed _ _ _ _ _ c.args.byte c.requires c.add.ensures c.args.self.now.handed;
    }
