use Rattle.std.proofs.Common.{◌≡◌, ◌∙◌, ◌++◌, ◌∷◌, ◌+◌, ◌%◌, ◌<◌, [], sym, arith, length}
use Rattle.std.specs.BTreeMap.{get}
use Rattle.std.specs.Cmp.Lexicographic.{slice_cmp}
use Rattle.std.specs.Ordering.{nat_cmp}
use Rattle.std.proofs.lemmas.List.FromFn.{map-range_with_len_more}
use Rattle.batch_records.specs.Flat.{with_entries}
use Rattle.batch_records.specs.Parts.{entries_at}
use Rattle.batch_records.proofs.FlatFacts.{got}
use Rattle.lane_workers.specs.Senders.{lane_of}
use Rattle.lane_workers.proofs.Numbering.{lane_at}
use Rattle.lane_workers.proofs.senders.lanes_of_messages.Goals as goal

pub loop-i-preserved : goal.loop-i-preserved
loop-i-preserved c =
    let day = c.args.setting.now.day in
    let i = c.loop-i.i in
    let m = with_entries c.message.result.now (entries_at day.messages i) in
    let within : i < length day.messages = omega (arith, c.message_count-i-end.ensures) in
    let own : c.number_of.result % c.args.workers ≡ lane_of day c.args.workers (i + 1) = lane_at day c.args.workers i c.number_of.result m (get (slice_cmp nat_cmp) c.in_ok-numbers.numbers) within (got day.messages i m c.message.ensures) c.in_ok-numbers.ensures c.number_of.ensures in
    c.in_ok-push.ensures.items
    ∙ (λ j. c.loop-i.invariant j ++ own j ∷ [])
    ∙ sym (map-range_with_len_more (lane_of day c.args.workers) 1 i (i + 1) (omega arith))
