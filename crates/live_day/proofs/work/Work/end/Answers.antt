use Rattle.std.proofs.Common.{◌∙◌, List, ap, subst, ℕ}
use Rattle.outside_io.specs.Calls.{Puts}
use Rattle.live_records.specs.Heard.{day_of, heard}
use Rattle.live_day.specs.Told.{told_end}
use Rattle.live_day.proofs.RoomSame.{end_in_room}
use Rattle.live_day.proofs.work.Work.end.Goals as goal

pub returns : goal.returns
returns g c records work =
    subst (λ (text : List ℕ). Puts (g.S.Sink.state c.args.sink.now) (g.S.Sink.state c.end.new.sink) text c.end.result) (ap told_end work.heard.accepted ∙ end_in_room c.args.self.now.setting.day.room (day_of (heard records))) c.end.ensures
