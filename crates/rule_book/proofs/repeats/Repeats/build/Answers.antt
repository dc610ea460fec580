use Rattle.std.proofs.Common.{arith}
use Rattle.batch_records.specs.Flat.{with_entries}
use Rattle.batch_records.specs.Parts.{entries_at}
use Rattle.rule_book.proofs.RepeatLemmas.{all_of_day, has_room, none_yet, one_further}
use Rattle.rule_book.proofs.repeats.Repeats.build.Goals as goal

pub loop-i-init : goal.loop-i-init
loop-i-init c = none_yet c.args.day.now c.in_ok-repeats.repeats c.message_count-count.result c.in_ok-repeats.ensures c.message_count-count.ensures

pub arrive-requires : goal.arrive-requires
arrive-requires c = has_room c.args.day.now c.loop-i.i c.loop-i.repeats c.loop-i.invariant (omega (arith, c.message_count-count.ensures))

pub loop-i-preserved : goal.loop-i-preserved
loop-i-preserved c =
    let day = c.args.day.now in
    let m = with_entries c.message.result.now (entries_at day.messages c.loop-i.i) in
    one_further day c.loop-i.i m c.loop-i.repeats c.arrive.new.self c.message.ensures c.loop-i.invariant c.arrive.ensures.names c.arrive.ensures.repeats c.arrive.ensures.most

pub returns : goal.returns
returns c = all_of_day c.args.day.now c.loop-i.i c.loop-i.repeats c.loop-i.invariant (omega (arith, c.message_count-count.ensures))
