use Rattle.rule_book.proofs.RepeatLemmas.{below_count}
use Rattle.rule_book.proofs.repeats.Repeats.first.Goals as goal

pub number-requires : goal.number-requires
number-requires c = below_count c.self.inside.names.names c.args.sender.now c.args.id.now c.first.result c.len.result c.first.ensures c.len.ensures
