use Rattle.cash_amounts.specs.Numbers.{numbered}
use Rattle.live_day.proofs.FloorFacts.{at_work_with, made_with, places_for}
use Rattle.live_tests.proofs.settle_floor_tests.take_next.Goals as goal

pub arrive-requires : goal.arrive-requires
arrive-requires g c =
    let comes = c.with_message-setting.ensures.brings c.args.floor.now (numbered c.args.till.now) c.requires.made in
    places_for c.with_message-setting.result.day c.message_count-n.result c.args.floor.now (numbered c.args.till.now) c.message_count-n.ensures.count comes

pub tell_the_same-alike-requires-clause-at_work : goal.tell_the_same-alike-requires-clause-at_work
tell_the_same-alike-requires-clause-at_work g c =
    let comes = c.with_message-setting.ensures.brings c.args.floor.now (numbered c.args.till.now) c.requires.made in
    at_work_with c.with_message-setting.result.day c.message_count-n.result c.args.floor.now (numbered c.args.till.now) c.message_count-n.ensures.count comes c.arrive.new.self c.with_message-setting.result.sound c.arrive.ensures.journal
    c.arrive.ensures.opened

pub take_in-requires : goal.take_in-requires
take_in-requires g c =
    let comes = c.with_message-setting.ensures.brings c.args.floor.now (numbered c.args.till.now) c.requires.made in
    record {
      at_work = at_work_with c.with_message-setting.result.day c.message_count-n.result c.args.floor.now (numbered c.args.till.now) c.message_count-n.ensures.count comes c.arrive.new.self c.with_message-setting.result.sound
          c.arrive.ensures.journal c.arrive.ensures.opened;
    }

pub returns-clause-made : goal.returns-clause-made
returns-clause-made g c =
    let comes = c.with_message-setting.ensures.brings c.args.floor.now (numbered c.args.till.now) c.requires.made in
    made_with c.with_message-setting.result.day c.message_count-n.result c.args.floor.now (numbered c.args.till.now) c.message_count-n.ensures.count comes c.arrive.new.self c.take_in.new.self (numbered c.take_in.new.till)
    c.with_message-setting.result.sound c.arrive.ensures.journal c.take_in.ensures.lines c.take_in.ensures.at_work
