use Rattle.std.proofs.Common.{◌≡◌, ◌+◌, ℕ, ap, subst}
use Rattle.journal_pass.specs.Known.{Known}
use Rattle.lane_workers.specs.Seen.{HadLanesChance}
use Rattle.lane_workers.proofs.Scanning.{lane_turns}
use Rattle.lane_workers.proofs.Seeing.{goes_then, lanes_kept}
use Rattle.lane_workers.proofs.workers.work_lane.Goals as goal

pub returns-clause-seen : goal.returns-clause-seen
returns-clause-seen g c = goes_then g.H.HallName.day c.args.pass.now.lines c.take_lane.new.pass.lines c.scan.new.pass.lines c.take_lane.ensures.seen c.scan.ensures.seen

pub returns-clause-taken : goal.returns-clause-taken
returns-clause-taken g c =
    lanes_kept g.H.HallName.day c.args.lanes.now.workers c.args.round c.args.pass.now.lane (c.args.pass.now.lane + 1) c.take_lane.new.pass.lines c.scan.new.pass.lines c.scan.ensures.seen.begins c.take_lane.ensures.taken

pub returns-clause-turns : goal.returns-clause-turns
returns-clause-turns g c =
    let day = g.H.HallName.day in
    let w = c.args.lanes.now.workers in
    let lane = c.args.pass.now.lane in
    let P = c.args.pass.now.lines in
    let J = c.take_lane.new.pass.lines in
    let K = c.scan.new.pass.lines in
    let same : c.take_lane.new.pass.lane ≡ lane = ap (λ (k : Known). k.lane) c.take_lane.ensures.pass in
    lane_turns day w c.args.round lane P J K c.take_lane.ensures.seen.begins c.take_lane.ensures.taken (subst (λ (l : ℕ). HadLanesChance day w c.args.round l J K) same c.scan.ensures.chances)
