use Rattle.std.proofs.Common.{◌≡◌, ap}
use Rattle.commit_journal.specs.Kept.{Kept}
use Rattle.live_day.proofs.BehindFacts.{puts_is}
use Rattle.live_day.proofs.LiveFloorFacts.{few_told, last_stop_event, stands_told, stop_goes, stop_left, stop_stands, text_told, told_now}
use Rattle.live_day.proofs.live_floor.LiveFloor.reach.Goals as goal

pub tell_behind-requires-clause-few : goal.tell_behind-requires-clause-few
tell_behind-requires-clause-few g c =
    let k = last_stop_event c.args.setting.now.day c.args.time c.args.self.now c.requires in
    few_told c.args.setting.now.day c.args.self.now (record { floor = c.reach_last.new.floor; till = c.reach_last.new.till; walk = c.args.self.now.walk }) c.len-first.result c.journal.result.now.history (ap (λ (j : Kept). j.history) c.journal.ensures) c.len-first.ensures k.0
    (stop_goes c.args.setting.now.day c.args.time c.args.self.now c.requires c.args.setting.now.sound k.0 k.1 _ c.reach_last.ensures.lines) c.journal-2.result.now.history (ap (λ (j : Kept). j.history) c.journal-2.ensures)

pub tell_behind-requires-clause-stands : goal.tell_behind-requires-clause-stands
tell_behind-requires-clause-stands g c =
    let k = last_stop_event c.args.setting.now.day c.args.time c.args.self.now c.requires in
    stands_told c.args.setting.now.day c.args.self.now (record { floor = c.reach_last.new.floor; till = c.reach_last.new.till; walk = c.args.self.now.walk }) c.len-first.result c.journal.result.now.history (ap (λ (j : Kept). j.history) c.journal.ensures) c.len-first.ensures k.0
    (stop_goes c.args.setting.now.day c.args.time c.args.self.now c.requires c.args.setting.now.sound k.0 k.1 _ c.reach_last.ensures.lines) c.journal-2.result.now.history (ap (λ (j : Kept). j.history) c.journal-2.ensures)
    c.args.self.now.walk (stop_stands c.args.setting.now.day c.args.time c.args.self.now c.requires c.args.setting.now.sound c.stop_changes_no_walk.ensures)

pub returns-clause-texts : goal.returns-clause-texts
returns-clause-texts g c = λ k e.
    puts_is _ _ _ _ _
    (text_told c.args.setting.now.day c.args.self.now (record { floor = c.reach_last.new.floor; till = c.reach_last.new.till; walk = c.args.self.now.walk }) c.len-first.result c.journal.result.now.history (ap (λ (j : Kept). j.history) c.journal.ensures) c.len-first.ensures k
    (stop_goes c.args.setting.now.day c.args.time c.args.self.now c.requires c.args.setting.now.sound k e _ c.reach_last.ensures.lines) c.journal-2.result.now.history (ap (λ (j : Kept). j.history) c.journal-2.ensures))
    c.tell_behind.ensures.texts

pub returns-clause-told : goal.returns-clause-told
returns-clause-told g c =
    told_now c.args.setting.now.day c.reach_last.new.floor c.reach_last.new.till c.tell_behind.new.walk c.tell_behind.result c.journal-2.result.now.history (ap (λ (j : Kept). j.history) c.journal-2.ensures) c.reach_last.ensures c.tell_behind.ensures.stands
    (c.tell_behind.ensures.room _ _ (stop_left c.args.setting.now.day c.args.time c.args.self.now c.requires c.args.setting.now.sound))
