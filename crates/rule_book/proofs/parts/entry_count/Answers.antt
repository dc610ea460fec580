use Rattle.std.proofs.Common.{ap, length, arith}
use Rattle.rule_book.proofs.FewEntries.{few_entries}
use Rattle.rule_book.proofs.parts.entry_count.Goals as goal

pub overflow_cast-result : goal.overflow_cast-result
overflow_cast-result c = omega (arith, ap length c.entries.ensures, few_entries c.args.setting.now.day c.args.n c.args.setting.now.sound)

pub returns-clause-few : goal.returns-clause-few
returns-clause-few c = omega (arith, ap length c.entries.ensures, few_entries c.args.setting.now.day c.args.n c.args.setting.now.sound)
