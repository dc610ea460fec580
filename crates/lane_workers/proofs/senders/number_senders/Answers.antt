use Rattle.std.proofs.Common.{◌≡◌, ◌∙◌, ◌<◌, ◌≤◌, None, arith, length, rules}
use Rattle.std.specs.BTreeMap.{get}
use Rattle.std.specs.Cmp.Lexicographic.{slice_cmp}
use Rattle.std.specs.Ordering.{nat_cmp}
use Rattle.batch_records.specs.Flat.{with_entries}
use Rattle.batch_records.specs.Parts.{entries_at}
use Rattle.batch_records.proofs.FlatFacts.{got}
use Rattle.cash_amounts.specs.declared.limits.TheConstants.{MAX_MESSAGES}
use Rattle.settlement_laws.proofs.Base.SoundParts.{sound_parts}
use Rattle.lane_workers.proofs.Numbering.{count_next, few_next, no_count, no_sender, numbers_next}
use Rattle.lane_workers.proofs.senders.number_senders.Goals as goal

pub loop-i-init : goal.loop-i-init
loop-i-init c = record {
  named = λ name. let none : get (slice_cmp nat_cmp) c.new-numbers.result name ≡ None = search rules in none ∙ no_sender name;
  count = no_count;
  few = omega arith;
}

pub loop-i-preserved : goal.loop-i-preserved
loop-i-preserved c =
    let ms = c.args.setting.now.day.messages in
    let i = c.loop-i.i in
    let m = with_entries c.message.result.now (entries_at ms i) in
    let old = get (slice_cmp nat_cmp) c.loop-i.numbers in
    let new = get (slice_cmp nat_cmp) c.enter.new.numbers in
    let was = c.loop-i.invariant in
    let within : i < length ms = omega (arith, c.message_count-i-end.ensures) in
    record {
      named = numbers_next ms i m old new c.loop-i.next within (got ms i m c.message.ensures) was.named was.count c.in_ok-next.ensures.entered;
      count = count_next ms i m old c.loop-i.next c.in_ok-next.next within (got ms i m c.message.ensures) was.named was.count c.in_ok-next.ensures.next;
      few = few_next old m.sender c.loop-i.next c.in_ok-next.next i was.few c.in_ok-next.ensures.next;
    }

pub enter-requires : goal.enter-requires
enter-requires c =
    let day = c.args.setting.now.day in
    let within : c.loop-i.i < length day.messages = omega (arith, c.message_count-i-end.ensures) in
    let few : length day.messages ≤ MAX_MESSAGES = (sound_parts day c.args.setting.now.sound).few_messages in
    omega (arith, within, few, c.loop-i.invariant.few)
