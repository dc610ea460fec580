use Rattle.live_day.proofs.ResumingFacts.{caught_short, caught_up}
use Rattle.live_day.proofs.catching_up.catch_up.Goals as goal

pub returns-in-Ok-clause-told : goal.returns-in-Ok-clause-told
returns-in-Ok-clause-told g c =
    caught_up g.S.Sink.state _ _ _ _ _ c.hear_compared.new.comparing.below.now _ _ _ _ _ _ c.over-comparing.ensures.same_reference c.over-comparing.ensures.same c.over-comparing.ensures.wanted c.in-Ok.ensures.same_reference c.in-Ok.ensures.told (search)

pub returns-clause-told : goal.returns-clause-told
returns-clause-told g c =
    caught_short g.S.Sink.state _ _ _ _ _ c.hear_compared.new.comparing.below.now _ _ _ _ _ _ c.over-comparing.ensures.same_reference c.over-comparing.ensures.same c.over-comparing.ensures.wanted c.in-Err.ensures.same_reference c.in-Err.ensures.told (search)
