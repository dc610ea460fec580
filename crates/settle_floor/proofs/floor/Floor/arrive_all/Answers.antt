use Rattle.std.proofs.Common.{◌∙◌, ◌<◌, length, arith}
use Rattle.settle_floor.proofs.RoomFacts.{all_come, comes_next, room_for_next}
use Rattle.settle_floor.proofs.floor.Floor.arrive_all.Goals as goal

pub arrive-requires : goal.arrive-requires
arrive-requires c =
    let low : c.loop-before.before < length c.args.setting.now.day.messages = let test = c.loop-before-test.true in let count = c.message_count-before-end.ensures.count in omega (arith, test, count) in
    room_for_next c.args.setting.now.day c.loop-before.before c.loop-before.self low c.loop-before.invariant.come

pub loop-before-preserved : goal.loop-before-preserved
loop-before-preserved c =
    let low : c.loop-before.before < length c.args.setting.now.day.messages = let test = c.loop-before-test.true in let count = c.message_count-before-end.ensures.count in omega (arith, test, count) in
    record {
      journal = c.arrive.ensures.journal ∙ c.loop-before.invariant.journal;
      come = comes_next c.args.setting.now.day c.loop-before.before c.loop-before.self c.arrive.new.self low c.loop-before.invariant.come c.arrive.ensures.journal c.arrive.ensures.places;
      within = omega (arith, low);
    }

pub returns-clause-opened : goal.returns-clause-opened
returns-clause-opened c = all_come c.args.setting.now.day c.loop-before.before c.loop-before.self (let test = c.loop-before-test.false in let count = c.message_count-before-end.ensures.count in omega (arith, test, count, c.loop-before.invariant.within)) c.loop-before.invariant.come
