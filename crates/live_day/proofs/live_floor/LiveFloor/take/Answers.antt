use Rattle.std.proofs.Common.{◌≡◌, ◌∙◌, ap, ℕ}
use Rattle.commit_journal.specs.Kept.{Kept}
use Rattle.live_day.proofs.BehindFacts.{puts_is}
use Rattle.live_day.proofs.LiveFloorFacts.{few_told, last_event, message_goes, message_left, message_room, message_stands, stands_told, told_now, text_told}
use Rattle.live_day.proofs.live_floor.LiveFloor.take.Goals as goal

pub arrive-requires : goal.arrive-requires
arrive-requires g c = message_room c.args.setting.now.day _ c.args.self.now c.message_count-n.ensures.count c.requires c.args.setting.now.sound

pub tell_behind-requires-clause-few : goal.tell_behind-requires-clause-few
tell_behind-requires-clause-few g c =
    let k = last_event c.args.setting.now.day c.args.self.now c.requires in
    few_told c.args.setting.now.day c.args.self.now (record { floor = c.take_last.new.floor; till = c.take_last.new.till; walk = c.arrive.new.self }) c.len-first.result c.journal.result.now.history (ap (λ (j : Kept). j.history) c.journal.ensures) c.len-first.ensures k.0
    (message_goes c.args.setting.now.day _ c.args.self.now c.message_count-n.ensures.count c.requires c.args.setting.now.sound k.0 k.1 _ c.take_last.ensures.lines) c.journal-2.result.now.history (ap (λ (j : Kept). j.history) c.journal-2.ensures)

pub tell_behind-requires-clause-stands : goal.tell_behind-requires-clause-stands
tell_behind-requires-clause-stands g c =
    let k = last_event c.args.setting.now.day c.args.self.now c.requires in
    stands_told c.args.setting.now.day c.args.self.now (record { floor = c.take_last.new.floor; till = c.take_last.new.till; walk = c.arrive.new.self }) c.len-first.result c.journal.result.now.history (ap (λ (j : Kept). j.history) c.journal.ensures) c.len-first.ensures k.0
    (message_goes c.args.setting.now.day _ c.args.self.now c.message_count-n.ensures.count c.requires c.args.setting.now.sound k.0 k.1 _ c.take_last.ensures.lines) c.journal-2.result.now.history (ap (λ (j : Kept). j.history) c.journal-2.ensures)
    c.arrive.new.self (message_stands c.args.setting.now.day _ c.args.self.now c.message_count-n.ensures.count c.requires c.args.setting.now.sound c.arrive.new.self c.arrive.ensures.day)

pub returns-clause-texts : goal.returns-clause-texts
returns-clause-texts g c = λ k e.
    puts_is _ _ _ _ _
    (text_told c.args.setting.now.day c.args.self.now (record { floor = c.take_last.new.floor; till = c.take_last.new.till; walk = c.arrive.new.self }) c.len-first.result c.journal.result.now.history (ap (λ (j : Kept). j.history) c.journal.ensures) c.len-first.ensures k
    (message_goes c.args.setting.now.day _ c.args.self.now c.message_count-n.ensures.count c.requires c.args.setting.now.sound k e _ c.take_last.ensures.lines) c.journal-2.result.now.history (ap (λ (j : Kept). j.history) c.journal-2.ensures))
    c.tell_behind.ensures.texts

pub returns-clause-told : goal.returns-clause-told
returns-clause-told g c =
    told_now c.args.setting.now.day c.take_last.new.floor c.take_last.new.till c.tell_behind.new.walk c.tell_behind.result c.journal-2.result.now.history (ap (λ (j : Kept). j.history) c.journal-2.ensures) c.take_last.ensures c.tell_behind.ensures.stands
    (c.tell_behind.ensures.room _ _ (message_left c.args.setting.now.day _ c.args.self.now c.message_count-n.ensures.count c.requires c.args.setting.now.sound c.arrive.new.self c.arrive.ensures.room))
