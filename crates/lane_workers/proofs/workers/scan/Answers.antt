use Rattle.std.proofs.Common.{◌≡◌, ◌∙◌, ◌<◌, ◌≤◌, ℕ, length, ap, arith, refl, subst, sym}
use Rattle.journal_pass.specs.Known.{Known}
use Rattle.lane_workers.specs.Stints.{stint}
use Rattle.lane_workers.specs.Seen.{HadChances}
use Rattle.lane_workers.proofs.Scanning.{chances_joined, lane_scanned}
use Rattle.lane_workers.proofs.Seeing.{goes_still, goes_then, same_pass}
use Rattle.lane_workers.proofs.workers.scan.Goals as goal

pub runs-init : goal.runs-init
runs-init g c = record { pass = refl; seen = goes_still g.H.HallName.day c.args.pass.now.lines; within = omega arith; past = λ m low less. absurd (omega (arith, less)) }

pub scan_run-place-requires-clause-table : goal.scan_run-place-requires-clause-table
scan_run-place-requires-clause-table g c = ap (λ (k : Known). k.table) c.runs.invariant.pass ∙ c.requires.table

pub scan_run-place-requires-clause-lane : goal.scan_run-place-requires-clause-lane
scan_run-place-requires-clause-lane g c =
    let lane = c.args.pass.now.lane in
    let same : c.runs.pass.lane ≡ lane = ap (λ (k : Known). k.lane) c.runs.invariant.pass in
    let few = c.requires.lane in
    omega (arith, same, few)

pub scan_run-place-requires-clause-place : goal.scan_run-place-requires-clause-place
scan_run-place-requires-clause-place g c =
    let day = g.H.HallName.day in
    let w = c.args.lanes.now.workers in
    let lane = c.args.pass.now.lane in
    let count : length c.stint-count.result.now ≡ length (stint day w c.args.round lane) = ap length (c.stint-count.ensures ∙ (λ j. stint (c.setting.ensures j) w c.args.round (c.lane.ensures j))) in
    let same : c.runs.pass.lane ≡ lane = ap (λ (k : Known). k.lane) c.runs.invariant.pass in
    let test = c.runs-test.true in
    subst (λ (l : ℕ). c.runs.place < length (stint day w c.args.round l)) (sym same) (omega (arith, test, count))

pub runs-preserved : goal.runs-preserved
runs-preserved g c =
    let day = g.H.HallName.day in
    let w = c.args.lanes.now.workers in
    let lane = c.args.pass.now.lane in
    let count : length c.stint-count.result.now ≡ length (stint day w c.args.round lane) = ap length (c.stint-count.ensures ∙ (λ j. stint (c.setting.ensures j) w c.args.round (c.lane.ensures j))) in
    let same : c.runs.pass.lane ≡ lane = ap (λ (k : Known). k.lane) c.runs.invariant.pass in
    let P = c.args.pass.now.lines in
    let J = c.runs.pass.lines in
    let K = c.scan_run-place.new.pass.lines in
    let end : c.scan_run-place.result ≤ length (stint day w c.args.round lane) = subst (λ (l : ℕ). c.scan_run-place.result ≤ length (stint day w c.args.round l)) same c.scan_run-place.ensures.further.1 in
    record {
      pass = same_pass c.args.pass.now c.runs.pass c.scan_run-place.new.pass c.runs.invariant.pass c.scan_run-place.ensures.pass;
      seen = goes_then day P J K c.runs.invariant.seen c.scan_run-place.ensures.seen;
      within = omega (arith, end, count);
      past = chances_joined day w c.args.round lane c.runs.place c.scan_run-place.result P J K c.runs.invariant.seen.begins c.scan_run-place.ensures.seen.begins c.runs.invariant.past
          (subst (λ (l : ℕ). HadChances day w c.args.round l c.runs.place c.scan_run-place.result J K) same c.scan_run-place.ensures.chances);
    }

pub returns-clause-chances : goal.returns-clause-chances
returns-clause-chances g c =
    let day = g.H.HallName.day in
    let w = c.args.lanes.now.workers in
    let lane = c.args.pass.now.lane in
    let count : length c.stint-count.result.now ≡ length (stint day w c.args.round lane) = ap length (c.stint-count.ensures ∙ (λ j. stint (c.setting.ensures j) w c.args.round (c.lane.ensures j))) in
    lane_scanned day w c.args.round lane c.args.pass.now.lines c.runs.pass.lines (λ m less. c.runs.invariant.past m (omega arith) (let test = c.runs-test.false in omega (arith, test, less, count)))
