use Rattle.std.proofs.Common.{subst}
use Rattle.outside_io.specs.Gathered.{gathering_state}
use Rattle.program_answers.specs.Giving.{SaysOneIfRoom}
use Rattle.program_answers.proofs.Handing.{said_one_below}
use Rattle.program_answers.proofs.Promising.{promise-taken, promised_below}
use Rattle.rtgs_engine.specs.Ends.{own_statuses}
use Rattle.rtgs_engine.specs.Promises.{IsAnswer, rtgs_program}
use Rattle.rtgs_engine.proofs.top.rtgs_by_workers.Goals as goal

pub answer_by_workers-status-requires-clause-asked : goal.answer_by_workers-status-requires-clause-asked
answer_by_workers-status-requires-clause-asked g c κs within = (c.args.words.now, (c.in-Ok.ensures.taken 0 (g.S.Sink.state c.args.output.now) (g.S.Sink.state c.args.output.now)).asks)

pub answer_by_workers-status-requires-clause-short : goal.answer_by_workers-status-requires-clause-short
answer_by_workers-status-requires-clause-short g c κs within =
    (c.in-Ok.ensures.taken 0 (g.S.Sink.state c.args.output.now) (g.S.Sink.state c.args.output.now)).within

pub returns-in-Ok : goal.returns-in-Ok
returns-in-Ok g c =
    let state = g.S.Sink.state in
    let command = c.in-Ok.command in
    let bytes = c.in-Ok.bytes.items in
    let taken = c.in-Ok.ensures.taken _ _ _ in
    promise-taken rtgs_program _ command bytes taken (λ nothing. nothing) (own_statuses command bytes)
    (said_one_below state c.over-gathering.result _ _ _ c.over-gathering.ensures.same_reference c.over-gathering.ensures.same c.answer_by_workers-status.new.output c.hand_over.new.gathering _ _ _ c.over-gathering.ensures.none (own_statuses command bytes)
    (subst (λ x. SaysOneIfRoom (gathering_state state) x c.answer_by_workers-status.new.output (IsAnswer command bytes) c.answer_by_workers-status.result) c.in-Ok.ensures.untouched c.answer_by_workers-status.ensures) c.hand_over.ensures.same_reference c.hand_over.ensures.handed (search))

pub returns-in-Err : goal.returns-in-Err
returns-in-Err g c =
    promised_below rtgs_program g.S.Sink.state _ _ _ _ _ _ _ _ c.over-gathering.result c.take_request.new.gathering _ _ _ c.over-gathering.ensures.same_reference c.over-gathering.ensures.same c.take_request.ensures.same_reference (search) c.in-Err.ensures.over
