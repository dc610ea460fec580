use Rattle.std.proofs.Common.{◌∙◌, ℕ, Bool, List, length, subst, sym, arith}
use Rattle.std.specs.Prelude.{if◌then◌else◌}
use Rattle.commit_journal.specs.Line.{History}
use Rattle.journal_replay.specs.Verdicts.{longest}
use Rattle.program_answers.specs.Answers.{done, ok_text}
use Rattle.program_answers.specs.Giving.{Says}
use Rattle.day_reasons.specs.Ends.{end_answer}
use Rattle.day_reasons.specs.Wrong.{wrong_text}
use Rattle.day_reasons.proofs.Along.{all_read}
use Rattle.day_reasons.proofs.top.tell_rest.Goals as goal

pub go_on-behind-requires-clause-along : goal.go_on-behind-requires-clause-along
go_on-behind-requires-clause-along g c = c.requires.along

pub go_on-behind-requires-clause-more : goal.go_on-behind-requires-clause-more
go_on-behind-requires-clause-more g c = let count = c.requires.count in omega (arith, count)

pub end_answer-requires : goal.end_answer-requires
end_answer-requires g c = record { work = c.go_on-behind.ensures.along.work }

pub returns-then-whole : goal.returns-then-whole
returns-then-whole g c =
    let day = c.args.setting.now.day in
    let read : History × List ℕ = longest day c.args.text.now in
    subst (λ (b : Bool). Says (g.S.Sink.state c.args.output.now) (g.S.Sink.state c.end_well.new.output) (if b then done (ok_text (length day.messages)) else record { status = 6; text = wrong_text day read.0 read.1 }) c.end_well.result) (sym (c.requires.whole c.if-whole.true)) c.end_well.ensures

pub returns : goal.returns
returns g c =
    let day = c.args.setting.now.day in
    let along = c.go_on-behind.ensures.along in
    let lines = c.go_on-behind.ensures.lines ∙ c.requires.count in
    subst (λ (read : History × List ℕ). Says (g.S.Sink.state c.args.output.now) (g.S.Sink.state c.end_answer.new.output) (end_answer day read.0 read.1) c.end_answer.result) (all_read day c.go_on-behind.new.self.floor.journal.history c.go_on-behind.result.now c.args.text.now along.same lines) c.end_answer.ensures
