use Rattle.std.proofs.Common.{subst}
use Rattle.outside_io.specs.Gathered.{gathering_state}
use Rattle.program_answers.specs.Giving.{SaysOneIfRoom}
use Rattle.program_answers.proofs.Handing.{said_one_below}
use Rattle.program_answers.proofs.Promising.{promise-taken, promised_below}
use Rattle.program_answers.proofs.serving.serve.Goals as goal

pub answer-status-requires-clause-asked : goal.answer-status-requires-clause-asked
answer-status-requires-clause-asked g c = (c.args.words.now, (c.in-Ok.ensures.taken 0 (g.S.Sink.state c.args.output.now) (g.S.Sink.state c.args.output.now)).asks)

pub answer-status-requires-clause-within : goal.answer-status-requires-clause-within
answer-status-requires-clause-within g c =
    (c.in-Ok.ensures.taken 0 (g.S.Sink.state c.args.output.now) (g.S.Sink.state c.args.output.now)).within

pub returns-in-Ok : goal.returns-in-Ok
returns-in-Ok g c =
    let laws = g.met.A.Answering in
    let program = g.A.Answering.program in
    let state = g.S.Sink.state in
    let first = c.over-gathering.result in
    let request = c.in-Ok.request in
    let bytes = c.in-Ok.bytes.items in
    let taken = c.in-Ok.ensures.taken _ _ _ in
    promise-taken program _ request bytes taken (laws.short _) (laws.own_status request bytes)
    (said_one_below state first _ _ _ c.over-gathering.ensures.same_reference c.over-gathering.ensures.same c.answer-status.new.output c.hand_over.new.gathering _ _ _ c.over-gathering.ensures.none (laws.own_status request bytes)
    (subst (λ x. SaysOneIfRoom (gathering_state state) x c.answer-status.new.output (program.IsAnswer request bytes) c.answer-status.result) c.in-Ok.ensures.untouched c.answer-status.ensures) c.hand_over.ensures.same_reference c.hand_over.ensures.handed (search))

pub returns-in-Err : goal.returns-in-Err
returns-in-Err g c =
    promised_below g.A.Answering.program g.S.Sink.state _ _ _ _ _ _ _ _ c.over-gathering.result c.take_request.new.gathering _ _ _ c.over-gathering.ensures.same_reference c.over-gathering.ensures.same c.take_request.ensures.same_reference (search) c.in-Err.ensures.over
