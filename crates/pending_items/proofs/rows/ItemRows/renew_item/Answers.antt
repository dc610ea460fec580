use Rattle.std.proofs.Common.{sym, ap, ◌∙◌}
use Rattle.pending_items.specs.Numbers.{number_in}
use Rattle.pending_items.specs.Items.{Lists, slot_at}
use Rattle.pending_items.proofs.RenewFacts.{none_renews, some_renews}
use Rattle.pending_items.proofs.rows.ItemRows.renew_item.Goals as goal

pub returns-in-Some : goal.returns-in-Some
returns-in-Some c = λ J s f.
    some_renews c.args.setting.now.day c.args.setting.now.sound J c.args.self.now f c.args.item c.requires c.number-number.result
    (c.number-number.ensures ∙ (ap (λ xs. number_in xs c.args.item) c.as_slice.ensures.value ∙ ap (λ (w : Lists). number_in w.starts c.args.item) c.self.view_is))
    c.in-Some.slot c.waits.result _
    (sym (c.in-Some.ensures ∙ (ap (λ xs. slot_at xs c.number-number.result) c.as_slice-2.ensures.value ∙ ap (λ (w : Lists). slot_at w.slots c.number-number.result) c.self.view_is)))
    (c.waits.ensures J s) c.stay_or_leave.ensures

pub returns-in-None : goal.returns-in-None
returns-in-None c = λ J s f.
    none_renews c.args.setting.now.day c.args.setting.now.sound J c.args.self.now f c.args.item c.requires c.number-number.result
    (c.number-number.ensures ∙ (ap (λ xs. number_in xs c.args.item) c.as_slice.ensures.value ∙ ap (λ (w : Lists). number_in w.starts c.args.item) c.self.view_is))
    _
    (sym (c.in-None.ensures ∙ (ap (λ xs. slot_at xs c.number-number.result) c.as_slice-2.ensures.value ∙ ap (λ (w : Lists). slot_at w.slots c.number-number.result) c.self.view_is)))
    (c.stay_or_enter.ensures J s f)
