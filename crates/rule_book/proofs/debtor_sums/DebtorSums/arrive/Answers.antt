use Rattle.std.proofs.Common.{arith}
use Rattle.rule_book.proofs.Summing.{b_less}
use Rattle.rule_book.proofs.debtor_sums.DebtorSums.arrive.Goals as goal

pub add_message-requires-clause-room : goal.add_message-requires-clause-room
add_message-requires-clause-room c = omega (arith, b_less c.args.day.now c.args.n, c.requires.room)

pub returns-clause-count : goal.returns-clause-count
returns-clause-count c = omega (arith, b_less c.args.day.now c.args.n, c.add_message.ensures.count)
