use Rattle.std.proofs.Common.{[], subst, true}
use Rattle.outside_io.proofs.PutLemmas.{has_put_none, puts_all}
use Rattle.program_answers.specs.Answers.{refusal_text}
use Rattle.live_records.specs.Heard.{heard}
use Rattle.live_day.specs.Stages.{IsAt, IsEarly}
use Rattle.live_day.specs.declared.stage.Stage.{Stage}
use Rattle.live_day.proofs.StageFacts.{broken_next, early_next, tells_bad, tells_none}
use Rattle.live_day.proofs.stage.Stage.hear_next.Goals as goal

pub returns-in-Ok-true-clause-told : goal.returns-in-Ok-true-clause-told
returns-in-Ok-true-clause-told g c = λ records r at next.
    let early : IsEarly records c.in-Early.setup c.in-Early.rooms = subst (λ (s : Stage). IsAt s records) c.in-Early.is at in
    let hears = c.in-Ok-true.ensures.heard c.in-Ok-true.field-0-test in
    ([], tells_none records r (hears (heard records) r next.kept early.heard).1, puts_all (g.S.Sink.state c.args.sink.now) (g.S.Sink.state c.args.sink.now) [] true (has_put_none (g.S.Sink.state c.args.sink.now)))

pub returns-in-Ok-true-clause-goes : goal.returns-in-Ok-true-clause-goes
returns-in-Ok-true-clause-goes g c = λ records r at next said.
    let early : IsEarly records c.in-Early.setup c.in-Early.rooms = subst (λ (s : Stage). IsAt s records) c.in-Early.is at in
    early_next records r c.args.row.now c.in-Early.setup c.hear.new.self c.in-Early.rooms early next.kept (c.in-Ok-true.ensures.heard c.in-Ok-true.field-0-test) c.hear.ensures.setup

pub returns-in-Err-clause-told : goal.returns-in-Err-clause-told
returns-in-Err-clause-told g c = λ records r at next.
    let early : IsEarly records c.in-Early.setup c.in-Early.rooms = subst (λ (s : Stage). IsAt s records) c.in-Early.is at in
    let breaks = c.in-Err.ensures.code.0 in
    (refusal_text c.args.number c.in-Err.code, tells_bad records r c.args.number c.in-Err.code next.number (breaks (heard records) r next.kept early.heard).1, c.end_run.ensures.text)

pub returns-in-Err-clause-breaks : goal.returns-in-Err-clause-breaks
returns-in-Err-clause-breaks g c = λ records r at next said.
    let early : IsEarly records c.in-Early.setup c.in-Early.rooms = subst (λ (s : Stage). IsAt s records) c.in-Early.is at in
    let breaks = c.in-Err.ensures.code.0 in
    broken_next records r (breaks (heard records) r next.kept early.heard).0

pub returns-in-Late-clause-goes : goal.returns-in-Late-clause-goes
returns-in-Late-clause-goes g c = λ records r at next said.
    let late = subst (λ (s : Stage). IsAt s records) c.in-Late.is at in
    (c.hear-in-Late.ensures.goes records r next.kept late.0 next.number said, c.hear-in-Late.ensures.begun said)

pub returns-in-Late-clause-breaks : goal.returns-in-Late-clause-breaks
returns-in-Late-clause-breaks g c = λ records r at next said.
    let late = subst (λ (s : Stage). IsAt s records) c.in-Late.is at in
    c.hear-in-Late.ensures.breaks records r next.kept late.0 next.number said
