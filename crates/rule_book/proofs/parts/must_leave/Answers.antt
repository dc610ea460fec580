use Rattle.std.proofs.Common.{◌∙◌, ap, sym}
use Rattle.machine.specs.Records.Messages.{sort_of}
use Rattle.machine.specs.Records.Reserves.{kept}
use Rattle.rule_book.proofs.KeptFacts.{other_leaves, payment_leaves}
use Rattle.rule_book.proofs.parts.must_leave.Goals as goal

pub returns-then-is_pay-clause-value : goal.returns-then-is_pay-clause-value
returns-then-is_pay-clause-value c =
    let day = c.args.setting.now.day in
    c.kept.ensures.value ∙ ap (kept day c.args.a) c.is_high.ensures ∙ sym (payment_leaves (sort_of day c.args.n) day c.args.n c.args.a (sym c.is_pay.ensures ∙ c.if-is_pay.true))

pub returns-else-is_pay-clause-value : goal.returns-else-is_pay-clause-value
returns-else-is_pay-clause-value c = sym (other_leaves (sort_of c.args.setting.now.day c.args.n) c.args.setting.now.day c.args.n c.args.a (sym c.is_pay.ensures ∙ c.if-is_pay.false))
