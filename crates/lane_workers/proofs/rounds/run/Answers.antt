use Rattle.std.proofs.Common.{◌≡◌, ◌∙◌, ◌+◌, ◌<◌, ◌≤◌, false, ap, arith, length, sym}
use Rattle.batch_records.proofs.SoundFacts.{few_stops}
use Rattle.settlement_laws.proofs.Base.SoundParts.{sound_parts}
use Rattle.journal_pass.specs.Known.{Known}
use Rattle.machine.specs.Telling.Facts
use Rattle.machine.specs.Telling.History.{is_ended}
use Rattle.lane_workers.proofs.Seeing.{below_kept, below_next, round_falls, round_within_day}
use Rattle.lane_workers.proofs.rounds.run.Goals as goal

pub overflow_add-next : goal.overflow_add-next
overflow_add-next g c =
    let day = g.H.HallName.day in
    let few = few_stops day.stops (sound_parts day c.requires.lanes.sound).stops in
    let within = c.rounds.invariant.round.within in
    omega (arith, few, within, c.round-next.ensures)

pub rounds-smaller : goal.rounds-smaller
rounds-smaller g c =
    let day = g.H.HallName.day in
    let P = c.take_rounds-pass.result.lines in
    let K = c.finish_round.new.pass.lines in
    let J = c.finish_round.ensures.lines in
    let going : is_ended K ≡ false = sym c.finish_round.ensures.ended ∙ c.if-finish_round.false in
    let reached = c.rounds.invariant.round.reached in
    let more = c.take_rounds-pass.ensures.seen.rounds in
    let falls : c.rounds.hall < Facts.round day K = round_falls day c.rounds.hall P J.0 K c.requires.lanes.sound J.1 J.2 J.3 going (omega (arith, reached, more)) in
    let high : Facts.round day K ≤ length day.stops = round_within_day day K in
    omega (arith, falls, high, c.finish_round.ensures.round)

pub rounds-preserved : goal.rounds-preserved
rounds-preserved g c =
    let day = g.H.HallName.day in
    let P = c.take_rounds-pass.result.lines in
    let K = c.finish_round.new.pass.lines in
    let high : Facts.round day K ≤ length day.stops = round_within_day day K in
    record {
      table = ap (λ (k : Known). k.table) c.finish_round.ensures.pass ∙ ap (λ (k : Known). k.table) c.take_rounds-pass.ensures.pass ∙ c.rounds.invariant.table;
      lane = ap (λ (k : Known). k.lane) c.finish_round.ensures.pass ∙ ap (λ (k : Known). k.lane) c.take_rounds-pass.ensures.pass ∙ c.rounds.invariant.lane;
      round = record { within = omega (arith, high, c.finish_round.ensures.round); reached = omega (arith, c.finish_round.ensures.round) };
      below = below_kept day (c.round-next.result + 1) P K c.finish_round.ensures.before (below_next day c.rounds.hall c.round-next.result P c.round-next.ensures c.take_rounds-pass.ensures.taken);
    }
