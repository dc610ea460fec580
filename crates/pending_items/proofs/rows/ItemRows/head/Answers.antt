use Rattle.std.proofs.Common.{◌+◌, ◌<◌, ◌≤◌, length, sym, ap, subst, ◌∙◌, arith}
use Rattle.std.proofs.lemmas.Bool.{ltb-false, ltb-true}
use Rattle.payment_queue.specs.Queued.{heads, rows}
use Rattle.pending_items.specs.Heads.{IsHeadOn}
use Rattle.pending_items.specs.Items.{Lists}
use Rattle.pending_items.proofs.HeadFacts.{no_head_past}
use Rattle.pending_items.proofs.KeptFacts.{head_tells}
use Rattle.pending_items.proofs.rows.ItemRows.head.Goals as goal

pub returns-then-not-has_band : goal.returns-then-not-has_band
returns-then-not-has_band c = λ J k.
    let past : c.args.self.now.accounts ≤ c.args.a = ltb-false c.args.a c.args.self.now.accounts (sym c.has_band.ensures.within ∙ c.if-not-has_band.true) in
    let all : length c.args.setting.now.day.accounts + 1 ≤ c.args.self.now.accounts = k.fits.accounts in
    no_head_past c.args.setting.now.day J c.args.a (omega (arith, past, all))

pub overflow_add-a : goal.overflow_add-a
overflow_add-a c =
    let inside : c.args.a < c.args.self.now.accounts = ltb-true c.args.a c.args.self.now.accounts (sym c.has_band.ensures.within ∙ c.if-not-has_band.false) in
    omega (arith, inside, c.has_band.ensures.small)

pub returns : goal.returns
returns c = λ J k. subst (IsHeadOn c.args.setting.now.day J c.args.a) (sym c.head_of.ensures)
    (head_tells c.args.setting.now.day c.args.setting.now.sound J c.args.self.now k c.foremost_is_first.ensures c.args.a c.heads.result (c.heads.ensures ∙ ap (λ (w : Lists). heads (rows w.queue) (c.args.a + 1)) c.self.view_is))
