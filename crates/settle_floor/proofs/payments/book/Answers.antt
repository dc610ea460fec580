-- Without a reason the want has its line, with the move of the payment.
use Rattle.std.proofs.Common.{◌∙◌, ap, refl, sym}
use Rattle.std.specs.Prelude.{option_to_list}
use Rattle.settle_floor.specs.Payments.{transfer_move}
use Rattle.settlement_laws.proofs.Wants.Answering.{line-is}
use Rattle.settle_floor.proofs.PaymentFacts.{book-why, moves-is}
use Rattle.settle_floor.proofs.payments.book.Goals as goal

pub returns-in-Some : goal.returns-in-Some
returns-in-Some g c = (book-why (g.D.Desk.day c.args.desk.now) (g.D.Desk.past c.args.desk.now) c.args.n c.requires.pay ∙ sym c.why_unpaid.ensures ∙ c.in-Some.is, refl)

pub returns-in-None : goal.returns-in-None
returns-in-None g c = (
  line-is _ _ _ _ _ (book-why (g.D.Desk.day c.args.desk.now) (g.D.Desk.past c.args.desk.now) c.args.n c.requires.pay ∙ sym c.why_unpaid.ensures ∙ c.in-None.is) c.head.ensures
      (c.push_transfer.ensures.moves ∙ ap (λ d. option_to_list (transfer_move d c.args.n)) c.setting.ensures ∙ moves-is (g.D.Desk.day c.args.desk.now) c.args.n),
  c.push_transfer.ensures.room,
)
