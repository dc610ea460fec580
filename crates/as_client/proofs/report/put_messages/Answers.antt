use Rattle.std.proofs.Common.{◌<◌, ◌≤◌, length, arith}
use Rattle.outside_io.proofs.PutLemmas.{has_put_is, has_put_more, has_put_none, numbers_all, numbers_more, numbers_parts, puts_all, puts_front}
use Rattle.as_client.specs.KeptTexts.{message_kept}
use Rattle.as_client.proofs.report.put_messages.Goals as goal

pub loop-before-init : goal.loop-before-init
loop-before-init g c = has_put_none _

pub returns-in_err-put_message : goal.returns-in_err-put_message
returns-in_err-put_message g c =
    let day = c.args.day.now in
    let count = c.message_count-before-end.ensures in
    let inside : c.loop-before.before < length day.messages = omega (arith, count) in
    puts_front _ _ _ _ _ _ _ _ _ c.from_residual.ensures.0 (numbers_parts (message_kept day c.args.party.now) (length day.messages) c.loop-before.before inside) c.loop-before.invariant c.in_err-put_message.ensures

pub loop-before-preserved : goal.loop-before-preserved
loop-before-preserved g c =
    let day = c.args.day.now in
    let count = c.message_count-before-end.ensures in
    let inside : c.loop-before.before < length day.messages = omega (arith, count) in
    has_put_is _ _ _ _ (numbers_more (message_kept day c.args.party.now) (length day.messages) c.loop-before.before inside) (has_put_more _ _ _ _ _ _ c.loop-before.invariant c.in_ok-put_message.ensures)

pub returns : goal.returns
returns g c =
    let day = c.args.day.now in
    let count = c.message_count-before-end.ensures in
    let past : length day.messages ≤ c.loop-before.before = omega (arith, count) in
    puts_all _ _ _ tt (has_put_is _ _ _ _ (numbers_all (message_kept day c.args.party.now) (length day.messages) c.loop-before.before past) c.loop-before.invariant)
