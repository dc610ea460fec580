use Rattle.std.proofs.Common.{sym, ap, ◌∙◌}
use Rattle.std.proofs.lemmas.Bool.{true≢false}
use Rattle.payment_queue.specs.Queued.{Queued, cleared, left, rows, stands_on}
use Rattle.payment_queue.proofs.KeptLemmas.{is_left, stands_nowhere}
use Rattle.payment_queue.proofs.queue.Queue.leave.Goals as goal

pub returns-in-Some : goal.returns-in-Some
returns-in-Some c =
    let slots = c.self.inside.rows.items in
    c.leave_at.ensures
    ∙ (ap (λ (v : Queued). cleared v c.in-Some.slot) (sym c.self.view_is)
    ∙ ((λ i. record { slots = is_left slots c.args.a c.args.item c.in-Some.slot c.self.invariant.is_kept.once (rw c.deref.ensures.value at c.in-Some.ensures) i; accounts = c.self.inside.accounts; room = c.self.inside.room })
    ∙ ap (λ (v : Queued). left v c.args.a c.args.item) c.self.view_is))

pub returns-in-None : goal.returns-in-None
returns-in-None c = absurd (true≢false (sym (ap (λ (v : Queued). stands_on (rows v) c.args.a c.args.item) c.self.view_is ∙ c.requires) ∙ stands_nowhere c.self.inside.rows.items c.args.a c.args.item (rw c.deref.ensures.value at c.in-None.ensures)))
