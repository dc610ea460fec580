use Rattle.std.proofs.Common.{arith}
use Rattle.rule_book.proofs.Numbering.{nothing_past}
use Rattle.rule_book.proofs.parts.message_in.Goals as goal

pub returns-then-i-message_count : goal.returns-then-i-message_count
returns-then-i-message_count c = nothing_past c.args.day.now.messages c.args.i (omega (arith, c.if-i-message_count.true, c.message_count.ensures))
