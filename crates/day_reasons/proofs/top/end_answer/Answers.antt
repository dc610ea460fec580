use Rattle.std.proofs.Common.{◌∙◌, Bool, length, subst, sym}
use Rattle.std.specs.Prelude.{if◌then◌else◌}
use Rattle.program_answers.specs.Answers.{done, ok_text}
use Rattle.program_answers.specs.Giving.{Says}
use Rattle.day_reasons.specs.Wrong.{wrong_text}
use Rattle.day_reasons.proofs.top.end_answer.Goals as goal

pub end_wrong-requires : goal.end_wrong-requires
end_wrong-requires g c = record { work = c.requires.work }

pub returns-then-ends : goal.returns-then-ends
returns-then-ends g c =
    let day = c.args.setting.now.day in
    subst (λ (b : Bool). Says (g.S.Sink.state c.args.output.now) (g.S.Sink.state c.end_well.new.output) (if b then done (ok_text (length day.messages)) else record { status = 6; text = wrong_text day c.args.work.now.floor.journal.history c.args.behind.now }) c.end_well.result) (sym (sym c.is_at_end-ends.ensures ∙ c.if-ends.true)) c.end_well.ensures

pub returns : goal.returns
returns g c =
    let day = c.args.setting.now.day in
    subst (λ (b : Bool). Says (g.S.Sink.state c.args.output.now) (g.S.Sink.state c.end_wrong.new.output) (if b then done (ok_text (length day.messages)) else record { status = 6; text = wrong_text day c.args.work.now.floor.journal.history c.args.behind.now }) c.end_wrong.result) (sym (sym c.is_at_end-ends.ensures ∙ c.if-ends.false)) c.end_wrong.ensures
