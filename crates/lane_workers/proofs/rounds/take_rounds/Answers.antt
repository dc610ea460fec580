use Rattle.std.proofs.Common.{◌≡◌, ◌∙◌, ℕ, ap, arith, subst}
use Rattle.batch_records.proofs.SoundFacts.{few_stops}
use Rattle.settlement_laws.proofs.Base.SoundParts.{sound_parts}
use Rattle.journal_pass.specs.Known.{Known}
use Rattle.lane_workers.specs.Seen.{AreLanesTaken, HadTurns}
use Rattle.lane_workers.proofs.Scanning.{rounds_both}
use Rattle.lane_workers.proofs.Seeing.{below_kept, goes_then, round_done, same_pass}
use Rattle.lane_workers.proofs.rounds.take_rounds.Goals as goal

pub overflow_add-round-end : goal.overflow_add-round-end
overflow_add-round-end g c =
    let day = g.H.HallName.day in
    let few = few_stops day.stops (sound_parts day c.requires.lanes.sound).stops in
    let within = c.requires.round.within in
    omega (arith, few, within, c.round-round-end.ensures)

pub loop-round-preserved : goal.loop-round-preserved
loop-round-preserved g c =
    let day = g.H.HallName.day in
    let w = c.args.lanes.now.workers in
    let round = c.loop-round.round in
    let P = c.loop-round.pass.lines in
    let K = c.work_lanes-pass.result.lines in
    let lane : c.loop-round.pass.lane ≡ 0 = ap (λ (k : Known). k.lane) c.loop-round.invariant.pass ∙ c.requires.pass.1 in
    let from_first = subst (λ (l : ℕ). AreLanesTaken day w round l c.workers.result K) lane c.work_lanes-pass.ensures.taken in
    let all = subst (λ (e : ℕ). AreLanesTaken day w round 0 e K) c.workers.ensures from_first in
    record {
      pass = same_pass c.args.pass c.loop-round.pass c.work_lanes-pass.result c.loop-round.invariant.pass c.work_lanes-pass.ensures.pass;
      seen = goes_then day c.args.pass.lines P K c.loop-round.invariant.seen c.work_lanes-pass.ensures.seen;
      turns = rounds_both day w c.args.next round c.args.pass.lines P K c.loop-round.invariant.seen.begins c.work_lanes-pass.ensures.seen.begins c.loop-round.invariant.turns
          (subst (λ (e : ℕ). HadTurns day w round 0 e P K) c.workers.ensures (subst (λ (l : ℕ). HadTurns day w round l c.workers.result P K) lane c.work_lanes-pass.ensures.turns));
      below = round_done day w round K c.requires.lanes.some (below_kept day round P K c.work_lanes-pass.ensures.seen.begins c.loop-round.invariant.below) all;
    }
