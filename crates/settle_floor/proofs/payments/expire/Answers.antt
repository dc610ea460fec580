-- Without a reason the want has its line, which moves nothing.
use Rattle.std.proofs.Common.{◌∙◌, ap, refl, sym}
use Rattle.commit_journal.specs.declared.line.Kind.TheVariants as kinds
use Rattle.settlement_laws.proofs.Wants.Answering.{line-is}
use Rattle.settle_floor.proofs.PaymentFacts.{expire-code, expire-moves, expire-why}
use Rattle.settle_floor.proofs.payments.expire.Goals as goal

pub returns-in-Some : goal.returns-in-Some
returns-in-Some g c = (expire-why (g.D.Desk.day c.args.desk.now) (g.D.Desk.past c.args.desk.now) c.args.n c.requires.pay ∙ sym c.why_kept.ensures ∙ c.in-Some.is, refl)

pub returns-in-None : goal.returns-in-None
returns-in-None g c = (
  line-is _ _ _ _ _ (expire-why (g.D.Desk.day c.args.desk.now) (g.D.Desk.past c.args.desk.now) c.args.n c.requires.pay ∙ sym c.why_kept.ensures ∙ c.in-None.is)
      (c.head.ensures ∙ ap (λ x. record { kind = kinds.Expire; msg = c.args.n; entry = 0; code = x }) (expire-code (g.D.Desk.day c.args.desk.now) (g.D.Desk.past c.args.desk.now) c.args.n c.requires.pay))
      (c.requires.empty ∙ expire-moves (g.D.Desk.day c.args.desk.now) (g.D.Desk.past c.args.desk.now) c.args.n c.requires.pay),
  refl,
)
