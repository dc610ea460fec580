use Rattle.std.proofs.Common.{ap, length, arith}
use Rattle.commit_journal.specs.Text.{line_text}
use Rattle.durable_day.proofs.RoomFacts.{length-unsealed, never_short, put_is}
use Rattle.durable_day.proofs.room.fill.Goals as goal

pub unreachable-requires : goal.unreachable-requires
unreachable-requires c = never_short c.clear.new.self _ (line_text c.args.place (record { head = c.args.head; moves = c.args.moves.now })) c.clear.ensures c.requires c.in-Err.ensures.err

pub seal-requires-clause-long : goal.seal-requires-clause-long
seal-requires-clause-long c =
    let text = line_text c.args.place (record { head = c.args.head; moves = c.args.moves.now }) in
    let put = put_is c.clear.new.self c.put_unsealed.new.sink text c.clear.ensures c.in-Ok.ensures.ok in
    omega (arith, ap length put, length-unsealed text)

pub seal-requires-clause-short : goal.seal-requires-clause-short
seal-requires-clause-short c =
    let text = line_text c.args.place (record { head = c.args.head; moves = c.args.moves.now }) in
    let put = put_is c.clear.new.self c.put_unsealed.new.sink text c.clear.ensures c.in-Ok.ensures.ok in
    omega (arith, ap length put, length-unsealed text, c.requires)
