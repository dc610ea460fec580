use Rattle.live_records.specs.Heard.{heard}
use Rattle.live_day.proofs.work.Work.has_end.Goals as goal

pub returns : goal.returns
returns c records work = c.has_end.ensures (heard records) c.args.self.now.setting.day work.heard
