use Rattle.std.proofs.Common.{arith}
use Rattle.std.proofs.lemmas.Grind.{common_steps}
use Rattle.settlement_laws.proofs.Base.SoundParts.{sound_parts}
use Rattle.as_client.proofs.report.message_count.Goals as goal

pub overflow_cast-result : goal.overflow_cast-result
overflow_cast-result c = let few = (sound_parts c.args.day.now c.requires).few_messages in grind (arith, common_steps, few)

pub returns : goal.returns
returns c = let few = (sound_parts c.args.day.now c.requires).few_messages in grind (arith, common_steps, few)
