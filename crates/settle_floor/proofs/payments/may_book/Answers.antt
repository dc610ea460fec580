-- An open payment is pending on its debit account, which is at hand.
use Rattle.std.proofs.Common.{◌≡◌, ◌∙◌, true, false, Some, ap, subst, sym, rules}
use Rattle.std.specs.Prelude.{is_none}
use Rattle.machine.specs.Stages.Phases.{is_open, phase}
use Rattle.settlement_laws.proofs.Wants.Answering.{none_is}
use Rattle.settle_floor.specs.Payments.{transfer_move}
use Rattle.settle_floor.proofs.PaymentFacts.{held-is, may-book, may-book-not, pending-is, stands-is}
use Rattle.settle_floor.proofs.payments.may_book.Goals as goal

pub why_payment_waits-requires-clause-pending : goal.why_payment_waits-requires-clause-pending
why_payment_waits-requires-clause-pending g c =
    let open_now : is_open (phase (g.D.Desk.day c.args.desk.now) (g.D.Desk.past c.args.desk.now) c.args.n) ≡ true = search rules in
    pending-is (g.D.Desk.day c.args.desk.now) (g.D.Desk.past c.args.desk.now) c.args.n c.requires.pay open_now

pub why_payment_waits-requires-clause-there : goal.why_payment_waits-requires-clause-there
why_payment_waits-requires-clause-there g c =
    let moved : transfer_move (g.D.Desk.day c.args.desk.now) c.args.n ≡ Some c.in-Some.payment =
    subst (λ d. transfer_move d c.args.n ≡ Some c.in-Some.payment) c.setting.ensures (sym c.transfer_move.ensures ∙ c.in-Some.is) in
    stands-is (g.D.Desk.day c.args.desk.now) c.args.n c.in-Some.payment c.requires.pay moved

pub why_payment_waits-requires-clause-held : goal.why_payment_waits-requires-clause-held
why_payment_waits-requires-clause-held g c =
    let open_now : is_open (phase (g.D.Desk.day c.args.desk.now) (g.D.Desk.past c.args.desk.now) c.args.n) ≡ true = search rules in
    let moved : transfer_move (g.D.Desk.day c.args.desk.now) c.args.n ≡ Some c.in-Some.payment =
    subst (λ d. transfer_move d c.args.n ≡ Some c.in-Some.payment) c.setting.ensures (sym c.transfer_move.ensures ∙ c.in-Some.is) in
    held-is (g.D.Desk.held c.args.desk.now) (g.D.Desk.day c.args.desk.now) (g.D.Desk.past c.args.desk.now) c.args.n c.in-Some.payment (g.D.Desk.legal c.args.desk.now) c.requires.pay c.requires.held moved open_now

pub returns-then-not-is_open : goal.returns-then-not-is_open
returns-then-not-is_open g c =
    let closed : is_open (phase (g.D.Desk.day c.args.desk.now) (g.D.Desk.past c.args.desk.now) c.args.n) ≡ false = search rules in
    sym (may-book-not (g.D.Desk.day c.args.desk.now) (g.D.Desk.past c.args.desk.now) c.args.n c.requires.pay closed)

pub returns-in-Some : goal.returns-in-Some
returns-in-Some g c =
    let open_now : is_open (phase (g.D.Desk.day c.args.desk.now) (g.D.Desk.past c.args.desk.now) c.args.n) ≡ true = search rules in
    let moved : transfer_move (g.D.Desk.day c.args.desk.now) c.args.n ≡ Some c.in-Some.payment =
    subst (λ d. transfer_move d c.args.n ≡ Some c.in-Some.payment) c.setting.ensures (sym c.transfer_move.ensures ∙ c.in-Some.is) in
    none_is c.why_payment_waits.result c.is_none.result c.is_none.ensures ∙ ap is_none c.why_payment_waits.ensures ∙ sym (may-book (g.D.Desk.day c.args.desk.now) (g.D.Desk.past c.args.desk.now) c.args.n c.in-Some.payment c.requires.pay open_now moved)
