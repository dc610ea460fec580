use Rattle.std.proofs.Common.{[], ap}
use Rattle.live_day.proofs.ComparedFacts.{line_beyond, puts_beyond}
use Rattle.live_day.proofs.ResumingFacts.{first_hearing, first_told}
use Rattle.live_day.proofs.catching_up.hear_compared.Goals as goal

pub hear-requires : goal.hear-requires
hear-requires g c = first_hearing g.D.Listener.program (g.D.Listener.has_heard c.args.day.now) _ g.met.D.RunsDay.runs c.requires.first c.requires.within

pub returns-clause-told : goal.returns-clause-told
returns-clause-told g c =
    puts_beyond _ _ _ _ _ _ _ _ _ _ _ _ _ _ c.requires.none (ap (λ s. (g.S.Sink.state s).written) c.requires.below) c.hear.new.sink.handed
    (first_told g.D.Listener.program c.args.read.now _ _ _ g.met.D.RunsDay.runs c.requires.within (c.hear.ensures.told [] c.requires.first))

pub returns-clause-line : goal.returns-clause-line
returns-clause-line g c =
    let old = g.S.Sink.state c.args.comparing.now.below.now in
    let new = g.S.Sink.state c.hear.new.sink.below.now in
    line_beyond _ _ _ _ _ _ _ _ _ _ _ old new _ c.requires.none
    (first_told g.D.Listener.program c.args.read.now _ _ _ g.met.D.RunsDay.runs c.requires.within (c.hear.ensures.told [] c.requires.first))
