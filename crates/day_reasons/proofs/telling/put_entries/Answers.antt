use Rattle.std.proofs.Common.{◌<◌, ◌≤◌, length, arith}
use Rattle.outside_io.proofs.PutLemmas.{has_put_is, has_put_more, has_put_none, numbers_all, numbers_more, numbers_parts, puts_all, puts_front}
use Rattle.machine.specs.Records.Messages.{entries}
use Rattle.day_reasons.specs.Told.{item_text}
use Rattle.day_reasons.proofs.telling.put_entries.Goals as goal

pub loop-before-init : goal.loop-before-init
loop-before-init g c = record { put = has_put_none _; moves = c.requires.moves }

pub returns-in_err-put_item-clause-put : goal.returns-in_err-put_item-clause-put
returns-in_err-put_item-clause-put g c =
    let count = c.entries_of-before-end.ensures in
    let inside : c.loop-before.before < length (entries (g.D.Desk.day c.args.desk.now) c.args.n) = omega (arith, count) in
    puts_front _ _ _ _ _ _ _ _ _ c.from_residual.ensures.0 (numbers_parts (item_text (g.D.Desk.day c.args.desk.now) (g.D.Desk.past c.args.desk.now) c.args.n) (length (entries (g.D.Desk.day c.args.desk.now) c.args.n)) c.loop-before.before inside) c.loop-before.invariant.put c.in_err-put_item.ensures.put

pub loop-before-preserved : goal.loop-before-preserved
loop-before-preserved g c =
    let count = c.entries_of-before-end.ensures in
    let inside : c.loop-before.before < length (entries (g.D.Desk.day c.args.desk.now) c.args.n) = omega (arith, count) in
    record {
      put = has_put_is _ _ _ _ (numbers_more (item_text (g.D.Desk.day c.args.desk.now) (g.D.Desk.past c.args.desk.now) c.args.n) (length (entries (g.D.Desk.day c.args.desk.now) c.args.n)) c.loop-before.before inside) (has_put_more _ _ _ _ _ _ c.loop-before.invariant.put c.in_ok-put_item.ensures.put);
      moves = c.in_ok-put_item.ensures.moves;
    }

pub returns-clause-put : goal.returns-clause-put
returns-clause-put g c =
    let count = c.entries_of-before-end.ensures in
    let past : length (entries (g.D.Desk.day c.args.desk.now) c.args.n) ≤ c.loop-before.before = omega (arith, count) in
    puts_all _ _ _ tt (has_put_is _ _ _ _ (numbers_all (item_text (g.D.Desk.day c.args.desk.now) (g.D.Desk.past c.args.desk.now) c.args.n) (length (entries (g.D.Desk.day c.args.desk.now) c.args.n)) c.loop-before.before past) c.loop-before.invariant.put)
