use Rattle.std.proofs.Common.{◌≡◌, ◌∙◌, ◌<◌, ◌≤◌, ℕ, length, ap, arith, refl, subst, sym}
use Rattle.journal_pass.specs.Known.{Known}
use Rattle.lane_workers.specs.Stints.{stint}
use Rattle.lane_workers.specs.Seen.{AreFirstTaken}
use Rattle.lane_workers.proofs.Seeing.{begun_still, goes_still, goes_then, same_pass, stint_taken}
use Rattle.lane_workers.proofs.workers.take_lane.Goals as goal

pub runs-init : goal.runs-init
runs-init g c = record { pass = refl; seen = goes_still g.H.HallName.day c.args.pass.now.lines; within = omega arith; past = λ k less. absurd (omega (arith, less)) }

pub take_run-place-requires-clause-table : goal.take_run-place-requires-clause-table
take_run-place-requires-clause-table g c = ap (λ (k : Known). k.table) c.runs.invariant.pass ∙ c.requires.table

pub take_run-place-requires-clause-lane : goal.take_run-place-requires-clause-lane
take_run-place-requires-clause-lane g c =
    let lane = c.args.pass.now.lane in
    let same : c.runs.pass.lane ≡ lane = ap (λ (k : Known). k.lane) c.runs.invariant.pass in
    let few = c.requires.lane in
    omega (arith, same, few)

pub take_run-place-requires-clause-round : goal.take_run-place-requires-clause-round
take_run-place-requires-clause-round g c = begun_still g.H.HallName.day c.args.round c.args.pass.now.lines c.runs.pass.lines c.runs.invariant.seen c.requires.round

pub take_run-place-requires-clause-place : goal.take_run-place-requires-clause-place
take_run-place-requires-clause-place g c =
    let day = g.H.HallName.day in
    let w = c.args.lanes.now.workers in
    let lane = c.args.pass.now.lane in
    let count : length c.stint-count.result.now ≡ length (stint day w c.args.round lane) = ap length (c.stint-count.ensures ∙ (λ j. stint (c.setting.ensures j) w c.args.round (c.lane.ensures j))) in
    let same : c.runs.pass.lane ≡ lane = ap (λ (k : Known). k.lane) c.runs.invariant.pass in
    let test = c.runs-test.true in
    subst (λ (l : ℕ). c.runs.place < length (stint day w c.args.round l)) (sym same) (omega (arith, test, count))

pub take_run-place-requires-clause-before : goal.take_run-place-requires-clause-before
take_run-place-requires-clause-before g c =
    let day = g.H.HallName.day in
    let w = c.args.lanes.now.workers in
    let lane = c.args.pass.now.lane in
    let same : c.runs.pass.lane ≡ lane = ap (λ (k : Known). k.lane) c.runs.invariant.pass in
    subst (λ (l : ℕ). AreFirstTaken day w c.args.round l c.runs.place c.runs.pass.lines) (sym same) c.runs.invariant.past

pub runs-preserved : goal.runs-preserved
runs-preserved g c =
    let day = g.H.HallName.day in
    let w = c.args.lanes.now.workers in
    let lane = c.args.pass.now.lane in
    let count : length c.stint-count.result.now ≡ length (stint day w c.args.round lane) = ap length (c.stint-count.ensures ∙ (λ j. stint (c.setting.ensures j) w c.args.round (c.lane.ensures j))) in
    let same : c.runs.pass.lane ≡ lane = ap (λ (k : Known). k.lane) c.runs.invariant.pass in
    let K = c.take_run-place.new.pass.lines in
    let end : c.take_run-place.result ≤ length (stint day w c.args.round lane) = subst (λ (l : ℕ). c.take_run-place.result ≤ length (stint day w c.args.round l)) same c.take_run-place.ensures.further.1 in
    record {
      pass = same_pass c.args.pass.now c.runs.pass c.take_run-place.new.pass c.runs.invariant.pass c.take_run-place.ensures.pass;
      seen = goes_then day c.args.pass.now.lines c.runs.pass.lines K c.runs.invariant.seen c.take_run-place.ensures.seen;
      within = omega (arith, end, count);
      past = subst (λ (l : ℕ). AreFirstTaken day w c.args.round l c.take_run-place.result K) same c.take_run-place.ensures.taken;
    }

pub returns-clause-taken : goal.returns-clause-taken
returns-clause-taken g c =
    let day = g.H.HallName.day in
    let w = c.args.lanes.now.workers in
    let lane = c.args.pass.now.lane in
    let count : length c.stint-count.result.now ≡ length (stint day w c.args.round lane) = ap length (c.stint-count.ensures ∙ (λ j. stint (c.setting.ensures j) w c.args.round (c.lane.ensures j))) in
    stint_taken day w c.args.round lane c.runs.pass.lines (λ k less. c.runs.invariant.past k (let test = c.runs-test.false in omega (arith, test, less, count)))
