use Rattle.std.proofs.Common.{◌∙◌}
use Rattle.program_answers.proofs.Listening.{finish_failed, finished}
use Rattle.program_answers.proofs.live_serving.finish_all.Goals as goal

pub returns-in-Ok-clause-finished : goal.returns-in-Ok-clause-finished
returns-in-Ok-clause-finished g c first heard none has all =
    finished g.L.Listener.program g.P.Sink.state first c.args.gathering.now c.finish.new.sink c.hand_over.new.gathering heard _ _ none (g.met.L.Listener.own_status heard) all (c.in-Ok.ensures heard has) c.hand_over.ensures.handed

pub returns-in-Err-clause-finished : goal.returns-in-Err-clause-finished
returns-in-Err-clause-finished g c first heard none has all =
    finish_failed g.L.Listener.program g.P.Sink.state first c.args.gathering.now c.finish.new.sink heard _ none all (c.in-Err.ensures heard has)

pub returns-in-Ok-clause-same_reference : goal.returns-in-Ok-clause-same_reference
returns-in-Ok-clause-same_reference g c = c.hand_over.ensures.same_reference ∙ (c.in-Ok.ensures c.requires.0 c.requires.1).put.ok.passed.0

pub returns-in-Err-clause-same_reference : goal.returns-in-Err-clause-same_reference
returns-in-Err-clause-same_reference g c = (c.in-Err.ensures c.requires.0 c.requires.1).put.err.passed.0
