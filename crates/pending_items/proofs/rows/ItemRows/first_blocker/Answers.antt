use Rattle.std.proofs.Common.{◌+◌, ◌<◌, ◌≤◌, length, sym, ap, ◌∙◌, arith}
use Rattle.std.proofs.lemmas.Bool.{ltb-false, ltb-true}
use Rattle.payment_queue.specs.Queued.{heads, rows}
use Rattle.pending_items.specs.Items.{Lists}
use Rattle.pending_items.proofs.HeadFacts.{none_past}
use Rattle.pending_items.proofs.KeptFacts.{high_tells, urgent_tells}
use Rattle.pending_items.proofs.rows.ItemRows.first_blocker.Goals as goal

pub returns-then-not-has_band : goal.returns-then-not-has_band
returns-then-not-has_band c = λ J s k.
    let past : c.args.self.now.accounts ≤ c.args.a = ltb-false c.args.a c.args.self.now.accounts (sym c.has_band.ensures.within ∙ c.if-not-has_band.true) in
    let all : length c.args.setting.now.day.accounts + 1 ≤ c.args.self.now.accounts = k.fits.accounts in
    none_past c.args.setting.now.day J c.args.item c.args.a (omega (arith, past, all))

pub overflow_add-a : goal.overflow_add-a
overflow_add-a c =
    let inside : c.args.a < c.args.self.now.accounts = ltb-true c.args.a c.args.self.now.accounts (sym c.has_band.ensures.within ∙ c.if-not-has_band.false) in
    omega (arith, inside, c.has_band.ensures.small)

pub returns-in-Some : goal.returns-in-Some
returns-in-Some c = λ J s k. urgent_tells c.args.setting.now.day c.args.setting.now.sound J c.args.self.now k c.foremost_is_first.ensures c.args.item c.args.a _ c.heads-heads.result (c.stands_at-own.ensures J s)
    (c.heads-heads.ensures ∙ ap (λ (w : Lists). heads (rows w.queue) (c.args.a + 1)) c.self.view_is) c.in-Some.first (c.in-Some.ensures J s)

pub returns-in-None : goal.returns-in-None
returns-in-None c = λ J s k. high_tells c.args.setting.now.day c.args.setting.now.sound J c.args.self.now k c.foremost_is_first.ensures c.args.item c.args.a _ c.heads-heads.result (c.stands_at-own.ensures J s)
    (c.heads-heads.ensures ∙ ap (λ (w : Lists). heads (rows w.queue) (c.args.a + 1)) c.self.view_is) c.ahead-in-None.result (c.in-None.ensures J s) (c.ahead-in-None.ensures J s)
