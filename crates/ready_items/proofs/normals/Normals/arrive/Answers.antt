use Rattle.std.proofs.Common.{◌∙◌, ap, arith, sym}
use Rattle.batch_records.specs.DayRecord.{Day}
use Rattle.ready_items.specs.Normals.{is_normal_pay, payer}
use Rattle.ready_items.proofs.ArrivalFacts.{enters_by, passes}
use Rattle.ready_items.proofs.Longer.{normal_same, payer_same}
use Rattle.ready_items.proofs.NormalFacts.{item_zero}
use Rattle.ready_items.proofs.normals.Normals.arrive.Goals as goal

pub returns-then-not-is_normal-clause-arrived : goal.returns-then-not-is_normal-clause-arrived
returns-then-not-is_normal-clause-arrived c = λ day ms ss J is keeps count e last have.
    passes day count c.args.n _ _ e (sym (ap (λ (d : Day). is_normal_pay d c.args.n) is ∙ normal_same day ms ss c.args.n last) ∙ (sym c.is_normal.ensures ∙ c.if-not-is_normal.true)) c.pass.ensures.passed have

pub returns-in-Some-clause-arrived : goal.returns-in-Some-clause-arrived
returns-in-Some-clause-arrived c = λ day ms ss J is keeps count e last have.
    enters_by day count c.args.n _ _ c.payer.result c.in-Some.i e last (sym (ap (λ (d : Day). is_normal_pay d c.args.n) is ∙ normal_same day ms ss c.args.n last) ∙ (sym c.is_normal.ensures ∙ c.if-not-is_normal.false))
    (c.payer.ensures ∙ (ap (λ (d : Day). payer d c.args.n) is ∙ payer_same day ms ss c.args.n last))
    (c.in-Some.ensures day J keeps) c.push.ensures.entered have

pub returns-in-None-clause-arrived : goal.returns-in-None-clause-arrived
returns-in-None-clause-arrived c = λ day ms ss J is keeps count e last have.
    absurd (c.in-None.ensures day J keeps (item_zero day c.args.n (omega (arith, e)) last))
