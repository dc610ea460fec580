use Rattle.std.proofs.Common.{◌<◌, ◌≤◌, length, arith}
use Rattle.outside_io.proofs.PutLemmas.{has_put_is, has_put_more, has_put_none, numbers_all, numbers_more, numbers_parts, puts_all, puts_front}
use Rattle.day_reasons.specs.Told.{message_text, messages_text}
use Rattle.day_reasons.proofs.telling.put_messages.Goals as goal

pub loop-before-init : goal.loop-before-init
loop-before-init g c = record { put = has_put_none _; moves = c.requires.moves }

pub returns-in_err-put_message-clause-put : goal.returns-in_err-put_message-clause-put
unfolding messages_text
returns-in_err-put_message-clause-put g c =
    let count = c.messages_of-before-end.ensures in
    let inside : c.loop-before.before < length (g.D.Desk.day c.args.desk.now).messages = omega (arith, count) in
    puts_front _ _ _ _ _ _ _ _ _ c.from_residual.ensures.0 (numbers_parts (message_text (g.D.Desk.day c.args.desk.now) (g.D.Desk.past c.args.desk.now)) (length (g.D.Desk.day c.args.desk.now).messages) c.loop-before.before inside) c.loop-before.invariant.put c.in_err-put_message.ensures.put

pub loop-before-preserved : goal.loop-before-preserved
loop-before-preserved g c =
    let count = c.messages_of-before-end.ensures in
    let inside : c.loop-before.before < length (g.D.Desk.day c.args.desk.now).messages = omega (arith, count) in
    record {
      put = has_put_is _ _ _ _ (numbers_more (message_text (g.D.Desk.day c.args.desk.now) (g.D.Desk.past c.args.desk.now)) (length (g.D.Desk.day c.args.desk.now).messages) c.loop-before.before inside) (has_put_more _ _ _ _ _ _ c.loop-before.invariant.put c.in_ok-put_message.ensures.put);
      moves = c.in_ok-put_message.ensures.moves;
    }

pub returns-clause-put : goal.returns-clause-put
unfolding messages_text
returns-clause-put g c =
    let count = c.messages_of-before-end.ensures in
    let past : length (g.D.Desk.day c.args.desk.now).messages ≤ c.loop-before.before = omega (arith, count) in
    puts_all _ _ _ tt (has_put_is _ _ _ _ (numbers_all (message_text (g.D.Desk.day c.args.desk.now) (g.D.Desk.past c.args.desk.now)) (length (g.D.Desk.day c.args.desk.now).messages) c.loop-before.before past) c.loop-before.invariant.put)
