use Rattle.std.proofs.Common.{◌∙◌, ◌≡◌, ◌+◌, ◌-◌, ℕ, ap, arith, length, refl}
use Rattle.std.specs.Prelude.{vec_len}
use Rattle.std.proofs.lemmas.List.FromFn.{length-map-range_with_len}
use Rattle.machine.specs.Records.Messages.{entries}
use Rattle.scan_laws.specs.Numbers.{item_number}
use Rattle.due_items.specs.Row.{Row}
use Rattle.due_items.proofs.RowFacts.{row_arrives}
use Rattle.due_items.proofs.row.ItemRow.arrive.Goals as goal

left : goal.returns-clause-room
left c = λ enough.
    let size : c.entry_count-count.result + 1 ≡ length (entries c.args.setting.now.day c.args.n) + 1 = ap (λ (m : ℕ). m + 1) c.entry_count-count.ensures.count in
    c.push.ensures.room ∙ (λ i. record { messages = c.args.self.now.room.messages - 1; items = c.args.self.now.room.items - size i })

pub returns-clause-room : goal.returns-clause-room
returns-clause-room c = left c

pub returns-clause-row : goal.returns-clause-row
returns-clause-row c = λ k e last enough is.
    let day = c.args.setting.now.day in
    let size : c.entry_count-count.result + 1 ≡ length (entries day c.args.n) + 1 = ap (λ (m : ℕ). m + 1) c.entry_count-count.ensures.count in
    (λ i. record { starts = c.push.new.self.starts; items = c.push.new.self.items; room = left c enough i })
    ∙ row_arrives day k c.args.n (c.entry_count-count.result + 1) (length c.push.new.self.items) c.args.self.now c.push.new.self.starts c.push.new.self.items e last size is c.push.ensures.items refl c.push.ensures.starts

-- it is the next, as the row has those before it
pub returns-then-len-n-clause-row : goal.returns-then-len-n-clause-row
returns-then-len-n-clause-row c = λ k e last enough is.
    let long : length c.self.inside.starts.items ≡ k + 1 = ap (λ (r : Row). length r.starts) (c.self.view_is ∙ is) ∙ length-map-range_with_len (λ m. item_number c.args.setting.now.day m 0) 1 (k + 1) in
    let own : vec_len c.self.inside.starts ≡ length c.self.inside.starts.items = omega arith in
    let other = c.if-len-n.true in
    let len = c.len.ensures in
    absurd (omega (arith, other, len, own, long, e))
