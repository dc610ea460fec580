use Rattle.std.proofs.Common.{sym, ap, ◌∙◌}
use Rattle.std.proofs.lemmas.Bool.{true≢false}
use Rattle.payment_queue.specs.Queued.{Queued, blocker, blocker_at, rows, stands_on}
use Rattle.payment_queue.proofs.KeptLemmas.{blocker_same, stands_nowhere}
use Rattle.payment_queue.proofs.queue.Queue.blocker.Goals as goal

pub returns-in-Some : goal.returns-in-Some
returns-in-Some c = c.blocker_at.ensures
    ∙ (ap (λ (v : Queued). blocker_at v c.in-Some.slot) (sym c.self.view_is)
    ∙ (blocker_same c.self.inside.rows.items c.self.inside.accounts c.self.inside.room c.args.a c.args.item c.in-Some.slot c.self.invariant.is_kept.once (rw c.deref.ensures.value at c.in-Some.ensures)
    ∙ ap (λ (v : Queued). blocker (rows v) c.args.a c.args.item) c.self.view_is))

pub returns-in-None : goal.returns-in-None
returns-in-None c = absurd (true≢false (sym (ap (λ (v : Queued). stands_on (rows v) c.args.a c.args.item) c.self.view_is ∙ c.requires) ∙ stands_nowhere c.self.inside.rows.items c.args.a c.args.item (rw c.deref.ensures.value at c.in-None.ensures)))
