use Rattle.std.proofs.Common.{◌∙◌, ◌≡◌, ◌≤◌, ◌-◌, None, ap, arith, replicate, subst, sym}
use Rattle.payment_queue.specs.Queued.{Queued, grown}
use Rattle.payment_queue.proofs.queue.Queue.with_room.Goals as goal

pub grow-requires : goal.grow-requires
grow-requires c = subst (λ (q : Queued). c.args.items ≤ q.room) (sym c.in_ok-queue.ensures) (omega arith)

pub returns : goal.returns
returns c =
    let none : c.args.items - c.args.items ≡ 0 = omega arith in
    c.grow.ensures ∙ (ap (λ (q : Queued). grown q c.args.items) c.in_ok-queue.ensures ∙ (λ i. record { slots = replicate c.args.items None; accounts = c.args.accounts; room = none i }))
