-- An open payment is pending on its debit account, which is at hand.
use Rattle.std.proofs.Common.{◌≡◌, ◌∙◌, true, Some, subst, sym, rules}
use Rattle.machine.specs.Stages.Phases.{is_open, phase}
use Rattle.settle_floor.specs.Payments.{transfer_move}
use Rattle.settle_floor.proofs.PaymentFacts.{held-is, pending-is, stands-is}
use Rattle.day_reasons.proofs.waiting.why_unpaid.Goals as goal

pub why_payment_waits-requires-clause-pending : goal.why_payment_waits-requires-clause-pending
why_payment_waits-requires-clause-pending g c =
    let open_now : is_open (phase (g.D.Desk.day c.args.desk.now) (g.D.Desk.past c.args.desk.now) c.args.n) ≡ true = search rules in
    pending-is (g.D.Desk.day c.args.desk.now) (g.D.Desk.past c.args.desk.now) c.args.n c.requires.pay open_now

pub why_payment_waits-requires-clause-there : goal.why_payment_waits-requires-clause-there
why_payment_waits-requires-clause-there g c =
    let moved : transfer_move (g.D.Desk.day c.args.desk.now) c.args.n ≡ Some c.in-Some-transfer_move.payment =
    subst (λ d. transfer_move d c.args.n ≡ Some c.in-Some-transfer_move.payment) c.setting.ensures (sym c.transfer_move.ensures ∙ c.in-Some-transfer_move.is) in
    stands-is (g.D.Desk.day c.args.desk.now) c.args.n c.in-Some-transfer_move.payment c.requires.pay moved

pub why_payment_waits-requires-clause-held : goal.why_payment_waits-requires-clause-held
why_payment_waits-requires-clause-held g c =
    let open_now : is_open (phase (g.D.Desk.day c.args.desk.now) (g.D.Desk.past c.args.desk.now) c.args.n) ≡ true = search rules in
    let moved : transfer_move (g.D.Desk.day c.args.desk.now) c.args.n ≡ Some c.in-Some-transfer_move.payment =
    subst (λ d. transfer_move d c.args.n ≡ Some c.in-Some-transfer_move.payment) c.setting.ensures (sym c.transfer_move.ensures ∙ c.in-Some-transfer_move.is) in
    held-is (g.D.Desk.held c.args.desk.now) (g.D.Desk.day c.args.desk.now) (g.D.Desk.past c.args.desk.now) c.args.n c.in-Some-transfer_move.payment (g.D.Desk.legal c.args.desk.now) c.requires.pay c.requires.held moved open_now
