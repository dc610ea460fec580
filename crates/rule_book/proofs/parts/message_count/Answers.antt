use Rattle.std.proofs.Common.{arith}
use Rattle.std.proofs.lemmas.Grind.{common_steps}
use Rattle.batch_records.proofs.SoundFacts.{message_parts}
use Rattle.rule_book.proofs.parts.message_count.Goals as goal

pub overflow_cast-result : goal.overflow_cast-result
overflow_cast-result c = let few = (message_parts c.args.setting.now.day c.args.setting.now.sound).few_messages in grind (arith, common_steps, few)

pub returns-clause-few : goal.returns-clause-few
returns-clause-few c = let few = (message_parts c.args.setting.now.day c.args.setting.now.sound).few_messages in grind (arith, common_steps, few)
