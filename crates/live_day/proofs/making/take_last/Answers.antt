use Rattle.live_day.proofs.FloorFacts.{at_work_with, made_with, places_for}
use Rattle.live_day.proofs.making.take_last.Goals as goal

pub arrive-requires : goal.arrive-requires
arrive-requires g c = places_for c.args.setting.now.day c.args.n c.args.floor.now _ c.requires.number c.requires.comes

pub take_in-requires : goal.take_in-requires
take_in-requires g c = record {
  at_work = at_work_with c.args.setting.now.day c.args.n c.args.floor.now _ c.requires.number c.requires.comes c.arrive.new.self c.args.setting.now.sound c.arrive.ensures.journal c.arrive.ensures.opened;
}

pub returns : goal.returns
returns g c =
    made_with c.args.setting.now.day c.args.n c.args.floor.now _ c.requires.number c.requires.comes c.arrive.new.self c.take_in.new.self _ c.args.setting.now.sound c.arrive.ensures.journal c.take_in.ensures.lines c.take_in.ensures.at_work
