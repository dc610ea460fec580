use Rattle.std.proofs.Common.{◌∙◌, ap, arith, length}
use Rattle.rule_book.proofs.ArrivingKeys.{arrived}
use Rattle.rule_book.proofs.parties.arrive.Goals as goal

pub push_message-requires-clause-room : goal.push_message-requires-clause-room
push_message-requires-clause-room c = omega (arith, ap length c.requires.empty, c.args.own.now.ok.0, c.requires.own_room)

pub append-requires : goal.append-requires
append-requires c =
    omega (arith, c.as_slice.ensures.len, c.put_in_order.ensures.len, c.push_message.ensures.len, ap length c.requires.empty, c.args.own.now.ok.0, c.requires.room)

pub returns-clause-arrived : goal.returns-clause-arrived
returns-clause-arrived c =
    arrived c.args.day.now c.args.n c.args.keys.now.items c.args.own.now.items c.push_message.new.keys.items c.put_in_order.new.keys.items c.as_slice.result.now c.append.new.keys.items c.requires.empty c.push_message.ensures.more
    c.push_message.ensures.listed c.put_in_order.ensures.sorted c.put_in_order.ensures.keeps c.as_slice.ensures.value c.append.ensures.items c.requires.before c.requires.rising

pub returns-clause-len : goal.returns-clause-len
returns-clause-len c =
    omega (arith, c.append.ensures.len, c.as_slice.ensures.len, c.put_in_order.ensures.len, c.push_message.ensures.len, ap length c.requires.empty, c.args.own.now.ok.0)

pub returns-clause-own_room : goal.returns-clause-own_room
returns-clause-own_room c = c.clear.ensures.capacity ∙ c.put_in_order.ensures.capacity ∙ c.push_message.ensures.capacity
