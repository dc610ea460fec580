use Rattle.std.proofs.Common.{◌∙◌, sym}
use Rattle.ready_items.proofs.TouchFacts.{item_alone, item_parts, item_skipped}
use Rattle.ready_items.proofs.touching.touch_item.Goals as goal

pub returns-then-not-is_b : goal.returns-then-not-is_b
returns-then-not-is_b c = item_alone c.args.setting.now.day c.args.item c.args.touched.now _ (sym c.is_b.ensures ∙ c.if-not-is_b.true) c.touch_part.ensures

pub returns-then-item-eq0 : goal.returns-then-item-eq0
returns-then-item-eq0 c = item_parts c.args.setting.now.day c.args.item c.args.touched.now _ (sym c.is_b.ensures ∙ c.if-not-is_b.false) c.if-item-eq0.true c.touch_parts.ensures

pub returns-else-item-eq0 : goal.returns-else-item-eq0
returns-else-item-eq0 c = item_skipped c.args.setting.now.day c.args.item c.args.touched.now (sym c.is_b.ensures ∙ c.if-not-is_b.false) c.if-item-eq0.false
