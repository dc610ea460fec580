use Rattle.live_day.proofs.FloorFacts.{at_work_at, early_stop, made_at}
use Rattle.live_day.proofs.making.reach_last.Goals as goal

pub come_to-requires-clause-time : goal.come_to-requires-clause-time
come_to-requires-clause-time g c = early_stop c.args.setting.now.day c.args.time c.args.floor.now _ c.requires c.args.setting.now.sound

pub come_to-requires-clause-at_work : goal.come_to-requires-clause-at_work
come_to-requires-clause-at_work g c = at_work_at c.args.setting.now.day c.args.time c.args.floor.now _ c.requires c.stop.new.self c.args.setting.now.sound c.stop.ensures.journal c.stop.ensures.opened

pub returns : goal.returns
returns g c =
    made_at c.args.setting.now.day c.args.time c.args.floor.now _ c.requires c.stop.new.self c.come_to.new.self _ c.args.setting.now.sound c.stop.ensures.journal c.come_to.ensures.lines c.come_to.ensures.at_work
