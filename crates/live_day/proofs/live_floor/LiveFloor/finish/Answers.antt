use Rattle.std.proofs.Common.{◌≡◌, ap}
use Rattle.commit_journal.specs.Kept.{Kept}
use Rattle.live_day.proofs.BehindFacts.{puts_is}
use Rattle.live_day.proofs.LiveFloorFacts.{end_goes, few_told, stands_told, text_told}
use Rattle.live_day.specs.LiveFloors.{came_in}
use Rattle.live_day.proofs.live_floor.LiveFloor.finish.Goals as goal

pub tell_behind-requires-clause-few : goal.tell_behind-requires-clause-few
tell_behind-requires-clause-few g c =
    few_told c.args.setting.now.day c.args.self.now (record { floor = c.run_out.new.floor; till = c.run_out.new.till; walk = c.args.self.now.walk }) c.len-first.result c.journal.result.now.history (ap (λ (j : Kept). j.history) c.journal.ensures) c.len-first.ensures (came_in c.args.setting.now.day)
    (end_goes c.args.setting.now.day c.args.self.now _ c.requires c.run_out.ensures.lines) c.journal-2.result.now.history (ap (λ (j : Kept). j.history) c.journal-2.ensures)

pub tell_behind-requires-clause-stands : goal.tell_behind-requires-clause-stands
tell_behind-requires-clause-stands g c =
    stands_told c.args.setting.now.day c.args.self.now (record { floor = c.run_out.new.floor; till = c.run_out.new.till; walk = c.args.self.now.walk }) c.len-first.result c.journal.result.now.history (ap (λ (j : Kept). j.history) c.journal.ensures) c.len-first.ensures (came_in c.args.setting.now.day)
    (end_goes c.args.setting.now.day c.args.self.now _ c.requires c.run_out.ensures.lines) c.journal-2.result.now.history (ap (λ (j : Kept). j.history) c.journal-2.ensures) c.args.self.now.walk c.requires.stands

pub returns-clause-texts : goal.returns-clause-texts
returns-clause-texts g c =
    puts_is _ _ _ _ _
    (text_told c.args.setting.now.day c.args.self.now (record { floor = c.run_out.new.floor; till = c.run_out.new.till; walk = c.args.self.now.walk }) c.len-first.result c.journal.result.now.history (ap (λ (j : Kept). j.history) c.journal.ensures) c.len-first.ensures (came_in c.args.setting.now.day)
    (end_goes c.args.setting.now.day c.args.self.now _ c.requires c.run_out.ensures.lines) c.journal-2.result.now.history (ap (λ (j : Kept). j.history) c.journal-2.ensures))
    c.tell_behind.ensures.texts
