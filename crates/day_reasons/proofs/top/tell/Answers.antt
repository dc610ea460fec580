use Rattle.std.proofs.Common.{◌≡◌, ◌∙◌, length, ap, sym, subst, arith}
use Rattle.commit_journal.specs.Line.{History}
use Rattle.commit_journal.specs.Histories.{oldest}
use Rattle.journal_replay.specs.Verdicts.{followed, longest}
use Rattle.program_answers.specs.Answers.{Answer}
use Rattle.program_answers.specs.Giving.{Says}
use Rattle.day_reasons.specs.Ends.{end_answer, lines_before}
use Rattle.day_reasons.specs.Told.{beginning, messages_text}
use Rattle.day_reasons.proofs.Along.{oldest_are}
use Rattle.day_reasons.proofs.Answering.{beginning_is, parts_are, says_after, says_cut}
use Rattle.day_reasons.proofs.top.tell.Goals as goal

pub go_on-left-requires-clause-along : goal.go_on-left-requires-clause-along
go_on-left-requires-clause-along g c =
    record { work = c.requires.work; same = ap (λ (J : History). followed (length c.args.text.now) c.args.setting.now.day J c.args.text.now) c.requires.empty }

pub go_on-left-requires-clause-more : goal.go_on-left-requires-clause-more
go_on-left-requires-clause-more g c =
    let none = ap length c.requires.empty in
    let most = c.lines_before-first.ensures.most in
    let count = c.requires.count in
    omega (arith, none, most, count)

pub put_told-requires : goal.put_told-requires
put_told-requires g c = c.go_on-left.ensures.along.work

pub tell_rest-requires-clause-along : goal.tell_rest-requires-clause-along
tell_rest-requires-clause-along g c =
    let left = c.go_on-left.result.now in
    record { work = c.put_told.ensures.work; same = ap (λ (J : History). followed (length left) c.args.setting.now.day J left) c.put_told.ensures.lines ∙ c.go_on-left.ensures.along.same }

pub tell_rest-requires-clause-count : goal.tell_rest-requires-clause-count
tell_rest-requires-clause-count g c =
    let none = ap length c.requires.empty in
    let most = c.lines_before-first.ensures.most in
    let count = c.requires.count in
    let lines = c.go_on-left.ensures.lines in
    let still = ap length c.put_told.ensures.lines in
    omega (arith, none, most, count, lines, still)

pub tell_rest-requires-clause-whole : goal.tell_rest-requires-clause-whole
tell_rest-requires-clause-whole g c = c.requires.whole

pub returns-in-Ok : goal.returns-in-Ok
returns-in-Ok g c =
    let day = c.args.setting.now.day in
    let text = c.args.text.now in
    let J : History = c.go_on-left.new.self.floor.journal.history in
    let none = ap length c.requires.empty in
    let lines = c.go_on-left.ensures.lines in
    let at : c.lines_before-first.result ≡ length J = omega (arith, none, lines) in
    let first = c.lines_before-first.ensures.value ∙ ap (lines_before c.args.request.now) c.requires.count in
    let told : J ≡ beginning c.args.request.now (longest day text).0 =
    sym (oldest_are day J c.go_on-left.result.now text _ c.go_on-left.ensures.along.same at) ∙ ap (oldest (longest day text).0) first ∙ beginning_is c.args.request.now (longest day text).0 in
    subst (λ (a : Answer). Says (g.S.Sink.state c.args.output.now) (g.S.Sink.state c.tell_rest.new.output) a c.tell_rest.result) (parts_are c.args.request.now day (longest day text).0 J (longest day text).1 told)
    (says_after g.S.Sink.state c.args.output.now c.put_told.new.sink c.tell_rest.new.output (messages_text day J) (end_answer day (longest day text).0 (longest day text).1) _ c.in-Ok.ensures.put.ok c.tell_rest.ensures)

pub returns-in-Err : goal.returns-in-Err
returns-in-Err g c =
    let day = c.args.setting.now.day in
    let text = c.args.text.now in
    let J : History = c.go_on-left.new.self.floor.journal.history in
    let none = ap length c.requires.empty in
    let lines = c.go_on-left.ensures.lines in
    let at : c.lines_before-first.result ≡ length J = omega (arith, none, lines) in
    let first = c.lines_before-first.ensures.value ∙ ap (lines_before c.args.request.now) c.requires.count in
    let told : J ≡ beginning c.args.request.now (longest day text).0 =
    sym (oldest_are day J c.go_on-left.result.now text _ c.go_on-left.ensures.along.same at) ∙ ap (oldest (longest day text).0) first ∙ beginning_is c.args.request.now (longest day text).0 in
    subst (λ (a : Answer). Says (g.S.Sink.state c.args.output.now) (g.S.Sink.state c.put_told.new.sink) a 5) (parts_are c.args.request.now day (longest day text).0 J (longest day text).1 told)
    (says_cut g.S.Sink.state c.args.output.now c.put_told.new.sink (messages_text day J) (end_answer day (longest day text).0 (longest day text).1) c.in-Err.ensures.put.err)
