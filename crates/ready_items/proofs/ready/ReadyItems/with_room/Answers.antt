use Rattle.std.proofs.Common.{◌∙◌, [], ap, arith, length}
use Rattle.growing_set.specs.Growing.{Growing}
use Rattle.scan_laws.specs.Numbers.{item_count}
use Rattle.due_items.specs.Due.{due_at}
use Rattle.due_items.proofs.Noted.{flags_length}
use Rattle.ready_items.proofs.EmptyFacts.{none_keeps}
use Rattle.ready_items.proofs.ready.ReadyItems.with_room.Goals as goal

pub returns : goal.returns
returns c =
    let day = c.args.setting.now.day in
    none_keeps day _ _ _ _ _ _ 0 c.in_ok-normals.ensures.payments c.in_ok-normals.ensures.none (ap (λ (s : Growing). s.set) c.in_ok-alone.ensures) c.in_ok-found.ensures c.in_ok-touched.ensures
    (c.count-items.ensures ∙ (ap length c.requires.exact ∙ flags_length (due_at day []) (item_count day))) (let count = c.account_count-accounts.ensures.count in omega (arith, count))
