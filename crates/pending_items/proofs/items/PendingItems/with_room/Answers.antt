use Rattle.std.proofs.Common.{◌≡◌, ◌∙◌, ◌+◌, ap, arith, length}
use Rattle.account_book.specs.Setup.{Setup}
use Rattle.pending_items.proofs.CycleFacts.{few_systems, none_kept}
use Rattle.pending_items.proofs.EndFacts.{first_ends}
use Rattle.pending_items.proofs.items.PendingItems.with_room.Goals as goal

pub empty-requires-clause-few : goal.empty-requires-clause-few
empty-requires-clause-few c =
    let few = few_systems c.args.setting.now.day c.args.setting.now.sound in
    let same : c.system_count.result ≡ length c.args.setting.now.day.systems = c.system_count.ensures.count ∙ ap (λ (setup : Setup). length setup.systems) c.args.setting.now.filed in
    omega (arith, few, same)

pub returns : goal.returns
returns c =
    let count = c.message_count-2.ensures.count in
    let few = c.message_count-2.ensures.few in
    let same : c.system_count.result ≡ length c.args.setting.now.day.systems = c.system_count.ensures.count ∙ ap (λ (setup : Setup). length setup.systems) c.args.setting.now.filed in
    record {
      rows = c.in_ok-rows.ensures;
      ends = first_ends c.args.setting.now.day _ c.in_ok-ends.ensures;
      batches = none_kept c.args.setting.now.day c.system_count.result (c.message_count-2.result + 1) _ (omega (arith, same)) (omega (arith, count)) (omega (arith, few)) c.in_ok-batches.ensures;
    }
