use Rattle.std.proofs.Common.{◌+◌, ◌∙◌, ℕ, Option, None, ap, arith, length, replicate, subst, sym}
use Rattle.std.proofs.lemmas.List.{length-replicate}
use Rattle.payment_queue.specs.Queued.{Queued, with_room}
use Rattle.pending_items.specs.Items.{IsSound}
use Rattle.pending_items.proofs.KeptFacts.{none_kept, none_sound}
use Rattle.pending_items.proofs.NumberFacts.{count_few}
use Rattle.pending_items.proofs.rows.ItemRows.with_room.Goals as goal

pub invariant_of-result : goal.invariant_of-result
invariant_of-result c =
    let room = ap (λ (q : Queued). q.room) c.in_ok-queue.ensures in
    let len = ap length c.in_ok-slots.ensures in
    let all = length-replicate {A = Option ℕ} c.in_ok-starts.count None in
    let count = c.in_ok-starts.ensures.count in
    let few = count_few c.args.setting.now.day c.args.setting.now.sound in (
      subst IsSound (λ i. record { starts = c.in_ok-starts.starts.items; slots = sym c.in_ok-slots.ensures i; queue = sym c.in_ok-queue.ensures i; accounts = c.account_count-accounts.result + 1; room = 0 })
          (none_sound c.in_ok-starts.starts.items (c.account_count-accounts.result + 1) c.in_ok-starts.count 0 0),
      omega arith,
      omega (arith, room),
      omega (arith, len, all, room, count, few),
    )

pub returns : goal.returns
returns c =
    let count = c.in_ok-starts.ensures.count in
    let accounts = c.account_count-accounts.ensures.count in
    none_kept c.args.setting.now.day (length c.args.setting.now.day.accounts + 1) 0 0 _ (omega arith) (λ i. record {
      starts = c.in_ok-starts.ensures.starts i;
      slots = (c.in_ok-slots.ensures ∙ ap (λ n. replicate n None) count) i;
      queue = (c.in_ok-queue.ensures ∙ (λ j. with_room (accounts j + 1) (count j))) i;
      accounts = ap (λ n. n + 1) accounts i;
      room = 0;
    })
