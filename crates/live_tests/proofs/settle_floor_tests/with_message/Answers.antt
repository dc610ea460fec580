use Rattle.std.proofs.Common.{◌≡◌, ◌∙◌, ◌+◌, ◌≤◌, ℕ, [], List, Option, true, length, ap, subst, sym}
use Rattle.std.specs.Option.{option_map_or}
use Rattle.std.specs.Prelude.{min, slice_get}
use Rattle.cash_amounts.specs.declared.limits.TheConstants.{MAX_ENTRIES_OF_DAY}
use Rattle.batch_records.specs.DayRecord.{Day}
use Rattle.batch_records.specs.Sound.{entries_in, is_sound}
use Rattle.batch_records.specs.declared.day.Entry.{Entry}
use Rattle.batch_records.specs.declared.day.Message.{Message}
use Rattle.machine.specs.Orders.Bounds.{entries_of_all}
use Rattle.rule_book.specs.Repeated.{with_one}
use Rattle.live_tests.specs.GrowingDays.{IsFront}
use Rattle.live_tests.proofs.ComingFacts.{message_front, message_sound, message_within}
use Rattle.live_tests.proofs.settle_floor_tests.with_message.Goals as goal

pub bring-requires : goal.bring-requires
bring-requires g c =
    let next = c.is_message_next.ensures c.if-not-is_message_next.false in
    message_within c.args.whole.now.day.messages c.message_count-i.result next.0 (ap (slice_get c.args.whole.now.day.messages) c.message_count-i.ensures ∙ next.1)

pub setting_of-requires : goal.setting_of-requires
setting_of-requires g c =
    let next = c.is_message_next.ensures c.if-not-is_message_next.false in
    let there = ap (slice_get c.args.whole.now.day.messages) c.message_count-i.ensures ∙ next.1 in
    subst (λ (d : Day). is_sound d ≡ true) (sym (c.bring.ensures next.0 there ∙ ap (λ (d : Day). with_one d next.0) c.into_day-day.ensures))
    (message_sound c.args.whole.now.day c.args.setting.day c.args.whole.now.sound c.requires.front next.0 next.1 next.2)

pub returns-clause-front : goal.returns-clause-front
returns-clause-front g c =
    let next = c.is_message_next.ensures c.if-not-is_message_next.false in
    let there = ap (slice_get c.args.whole.now.day.messages) c.message_count-i.ensures ∙ next.1 in
    subst (IsFront c.args.whole.now.day) (sym (c.setting_of.ensures ∙ c.bring.ensures next.0 there ∙ ap (λ (d : Day). with_one d next.0) c.into_day-day.ensures))
    (message_front c.args.whole.now.day c.args.setting.day c.args.whole.now.sound c.requires.front next.0 next.1)

pub returns-clause-brings : goal.returns-clause-brings
returns-clause-brings g c = λ floor holdings made.
    let next = c.is_message_next.ensures c.if-not-is_message_next.false in
    let there = ap (slice_get c.args.whole.now.day.messages) c.message_count-i.ensures ∙ next.1 in
    let own : length c.entries.result.now ≡ length (entries_in next.0.body) = ap (λ (es : List Entry). length es) (c.entries.ensures ∙ ap (λ (o : Option Message). option_map_or (λ (m : Message). entries_in m.body) o []) there) in
    record {
      before = c.args.setting.day;
      last = next.0;
      longer = c.setting_of.ensures ∙ c.bring.ensures next.0 there ∙ ap (λ (d : Day). with_one d next.0) c.into_day-day.ensures;
      sound = c.args.setting.sound;
      round = next.2;
      low = c.has_room.ensures.low c.if-not-has_room.false;
      few = subst (λ (n : ℕ). entries_of_all c.args.setting.day + n ≤ min c.args.setting.day.room.entries MAX_ENTRIES_OF_DAY) own (c.has_room.ensures.few c.if-not-has_room.false);
      made = made;
    }
