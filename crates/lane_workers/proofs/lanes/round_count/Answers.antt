use Rattle.std.proofs.Common.{length, ap, arith}
use Rattle.batch_records.proofs.SoundFacts.{few_stops}
use Rattle.settlement_laws.proofs.Base.SoundParts.{sound_parts}
use Rattle.lane_workers.proofs.lanes.round_count.Goals as goal

pub overflow_cast-result : goal.overflow_cast-result
overflow_cast-result c =
    let day = c.args.setting.now.day in
    omega (arith, few_stops day.stops (sound_parts day c.args.setting.now.sound).stops, ap length c.stops.ensures)

pub overflow_add-result : goal.overflow_add-result
overflow_add-result c =
    let day = c.args.setting.now.day in
    omega (arith, few_stops day.stops (sound_parts day c.args.setting.now.sound).stops, ap length c.stops.ensures)
