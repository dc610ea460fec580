use Rattle.cash_amounts.specs.Numbers.{numbered}
use Rattle.live_day.proofs.FloorFacts.{at_work_at, made_at}
use Rattle.live_tests.proofs.settle_floor_tests.reach_next.Goals as goal

pub tell_the_same-alike-requires-clause-at_work : goal.tell_the_same-alike-requires-clause-at_work
tell_the_same-alike-requires-clause-at_work g c =
    let comes = c.with_next_stop-setting.ensures.brings c.args.floor.now (numbered c.args.till.now) c.requires.made in
    at_work_at c.with_next_stop-setting.result.0.day c.with_next_stop-setting.result.1 c.args.floor.now (numbered c.args.till.now) comes c.stop.new.self c.with_next_stop-setting.result.0.sound c.stop.ensures.journal c.stop.ensures.opened

pub come_to-requires-clause-at_work : goal.come_to-requires-clause-at_work
come_to-requires-clause-at_work g c =
    let comes = c.with_next_stop-setting.ensures.brings c.args.floor.now (numbered c.args.till.now) c.requires.made in
    at_work_at c.with_next_stop-setting.result.0.day c.with_next_stop-setting.result.1 c.args.floor.now (numbered c.args.till.now) comes c.stop.new.self c.with_next_stop-setting.result.0.sound c.stop.ensures.journal c.stop.ensures.opened

pub returns-clause-made : goal.returns-clause-made
returns-clause-made g c =
    let comes = c.with_next_stop-setting.ensures.brings c.args.floor.now (numbered c.args.till.now) c.requires.made in
    made_at c.with_next_stop-setting.result.0.day c.with_next_stop-setting.result.1 c.args.floor.now (numbered c.args.till.now) comes c.stop.new.self c.come_to.new.self (numbered c.come_to.new.till) c.with_next_stop-setting.result.0.sound
    c.stop.ensures.journal c.come_to.ensures.lines c.come_to.ensures.at_work
