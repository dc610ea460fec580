use Rattle.std.proofs.Common.{subst}
use Rattle.ready_items.specs.Noting.{Touches}
use Rattle.ready_items.proofs.NoteFacts.{no_item, some_item}
use Rattle.ready_items.proofs.ready.touch_number.Goals as goal

pub returns-in-Some : goal.returns-in-Some
returns-in-Some c = λ J due low. subst (λ x. Touches c.args.setting.now.day x c.args.touched.now c.touch_item.new.touched) (some_item _ _ (c.in-Some.ensures c.args.setting.now.day J due low)) c.touch_item.ensures

pub returns-in-None : goal.returns-in-None
returns-in-None c = λ J due low. no_item _ (c.in-None.ensures c.args.setting.now.day J due low)
