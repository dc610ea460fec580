use Rattle.std.proofs.Common.{arith}
use Rattle.std.proofs.lemmas.Grind.{common_steps}
use Rattle.batch_records.proofs.SoundFacts.{message_parts}
use Rattle.batch_records.proofs.VersionFacts.{messages_at_most}
use Rattle.rtgs_engine.proofs.top.message_count.Goals as goal

pub overflow_cast-result : goal.overflow_cast-result
overflow_cast-result c = let few = (message_parts c.args.day.now c.requires.sound).few_messages in let most = messages_at_most c.args.day.now.version in grind (arith, common_steps, few, most)

pub returns : goal.returns
returns c = let few = (message_parts c.args.day.now c.requires.sound).few_messages in let most = messages_at_most c.args.day.now.version in grind (arith, common_steps, few, most)
