use Rattle.std.proofs.Common.{refl, sym, subst}
use Rattle.rtgs_engine.specs.Journals.{IsOfDay}
use Rattle.rtgs_engine.proofs.AnswerFacts.{of-day}
use Rattle.rtgs_engine.proofs.Texts.{says_nothing, says_settled}
use Rattle.rtgs_engine.proofs.top.settle_day.Goals as goal

pub returns-in-Ok : goal.returns-in-Ok
returns-in-Ok g c =
    says_settled g.S.Sink.state _ _ 0 c.args.day c.in-Ok.told.settled.setting.day c.in-Ok.told.settled.journal.history _ _ c.in-Ok.ensures.day
    (subst (IsOfDay 0 c.args.day) (sym c.in-Ok.ensures.lines) (of-day 0 c.args.day c.requires.sound)) c.put_output-written.ensures c.status_after.ensures

pub returns-in-Err : goal.returns-in-Err
returns-in-Err g c = says_nothing g.S.Sink.state _ _ (IsOfDay 0 c.args.day) _ _ refl refl c.in-Err.field-0.cause
