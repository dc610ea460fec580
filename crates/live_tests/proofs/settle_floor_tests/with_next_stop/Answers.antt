use Rattle.std.proofs.Common.{◌≡◌, ◌∙◌, ◌<◌, ℕ, List, true, get_or, length, ap, subst, sym}
use Rattle.batch_records.specs.DayRecord.{Day}
use Rattle.batch_records.specs.Growing.{with_stop}
use Rattle.batch_records.specs.Sound.{is_sound}
use Rattle.live_tests.specs.GrowingDays.{IsFront}
use Rattle.live_tests.proofs.ComingFacts.{stop_front, stop_sound}
use Rattle.live_tests.proofs.settle_floor_tests.with_next_stop.Goals as goal

pub setting_of-requires : goal.setting_of-requires
setting_of-requires g c =
    let low = subst (λ (xs : List ℕ). length xs < length c.args.whole.now.day.stops) c.stops.ensures c.in-Some.ensures.0 in
    let at = subst (λ (xs : List ℕ). c.in-Some.time ≡ get_or c.args.whole.now.day.stops (length xs) 0) c.stops.ensures c.in-Some.ensures.1 in
    subst (λ (d : Day). is_sound d ≡ true) (sym (c.stop_in_room.ensures ∙ ap (with_stop c.in-Some.time) c.into_day-day.ensures))
    (stop_sound c.args.whole.now.day c.args.setting.day c.args.whole.now.sound c.requires.front c.in-Some.time c.args.setting.sound low at)

pub returns-clause-front : goal.returns-clause-front
returns-clause-front g c =
    let low = subst (λ (xs : List ℕ). length xs < length c.args.whole.now.day.stops) c.stops.ensures c.in-Some.ensures.0 in
    let at = subst (λ (xs : List ℕ). c.in-Some.time ≡ get_or c.args.whole.now.day.stops (length xs) 0) c.stops.ensures c.in-Some.ensures.1 in
    subst (IsFront c.args.whole.now.day) (sym (c.setting_of.ensures ∙ c.stop_in_room.ensures ∙ ap (with_stop c.in-Some.time) c.into_day-day.ensures))
    (stop_front c.args.whole.now.day c.args.setting.day c.args.whole.now.sound c.requires.front c.in-Some.time low at)

pub returns-clause-brings : goal.returns-clause-brings
returns-clause-brings g c = λ floor holdings made. record {
  before = c.args.setting.day;
  longer = c.setting_of.ensures ∙ c.stop_in_room.ensures ∙ ap (with_stop c.in-Some.time) c.into_day-day.ensures;
  sound = c.args.setting.sound;
  made = made;
}
