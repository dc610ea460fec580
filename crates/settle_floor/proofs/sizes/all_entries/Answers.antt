use Rattle.std.proofs.Common.{arith}
use Rattle.std.proofs.lemmas.Grind.{common_steps}
use Rattle.settlement_laws.proofs.Base.SoundParts.{sound_parts}
use Rattle.settle_floor.proofs.sizes.all_entries.Goals as goal

pub overflow_cast-result : goal.overflow_cast-result
overflow_cast-result c = let few = (sound_parts c.args.setting.now.day c.args.setting.now.sound).few_entries in grind (arith, common_steps, few)

pub returns : goal.returns
returns c = let few = (sound_parts c.args.setting.now.day c.args.setting.now.sound).few_entries in record {
  count = grind (arith, common_steps, few);
  few = grind (arith, common_steps, few);
}
