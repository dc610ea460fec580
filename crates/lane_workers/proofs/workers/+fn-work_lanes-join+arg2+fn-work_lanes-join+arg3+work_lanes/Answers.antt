use Rattle.std.proofs.Common.{◌≡◌, ◌∙◌, ◌+◌, ◌-◌, ◌/◌, ℕ, true, ap, subst, sym}
use Rattle.journal_pass.specs.Known.{Known}
use Rattle.lane_workers.specs.Seen.{AreLanesTaken, GoesOn, HadTurns}
use Rattle.lane_workers.specs.Stints.{is_idle}
use Rattle.lane_workers.proofs.Scanning.{idle_taken, idle_turns, turns_both, turns_kept}
use Rattle.lane_workers.proofs.Seeing.{goes_both, lanes_both, lanes_kept}
use Rattle.lane_workers.proofs.workers.+fn-work_lanes-join+arg2+fn-work_lanes-join+arg3+work_lanes.Goals as goal

pub returns-clause-seen : goal.returns-clause-seen
returns-clause-seen g t c =
    let day = g.H.HallName.day in
    let one = c.join-one.result.0.lines in
    let two = c.join-one.result.1.lines in
    let left = subst (λ (k : Known). GoesOn day k.lines one) c.fork-other.ensures.same c.join-one.ensures.first.1.0 in
    let right = subst (λ (k : Known). GoesOn day k.lines two) c.fork-other.ensures.new c.join-one.ensures.second.1.0 in
    goes_both day c.args.pass.lines one two c.join-2.new.pass.lines left right (ap (λ (k : Known). k.lines) c.join-2.ensures.seen) c.join-2.ensures.this

pub returns-clause-taken : goal.returns-clause-taken
returns-clause-taken g t c =
    let day = g.H.HallName.day in
    let w = c.args.lanes.now.workers in
    let round = c.args.round in
    let lane = c.args.pass.lane in
    let middle : ℕ = c.lane-lane.result + (c.args.end - c.lane-lane.result) / 2 in
    let one = c.join-one.result.0.lines in
    let two = c.join-one.result.1.lines in
    let L = c.join-2.new.pass.lines in
    let left = subst (λ (k : Known). AreLanesTaken day w round k.lane middle one) c.fork-other.ensures.same c.join-one.ensures.first.1.1.0 in
    let right = subst (λ (k : Known). AreLanesTaken day w round k.lane c.args.end two) c.fork-other.ensures.new c.join-one.ensures.second.1.1.0 in
    lanes_both day w round lane middle c.args.end L (lanes_kept day w round lane middle one L c.join-2.ensures.this left) (lanes_kept day w round middle c.args.end two L c.join-2.ensures.that right)

pub returns-clause-turns : goal.returns-clause-turns
returns-clause-turns g t c =
    let day = g.H.HallName.day in
    let w = c.args.lanes.now.workers in
    let round = c.args.round in
    let lane = c.args.pass.lane in
    let P = c.args.pass.lines in
    let middle : ℕ = c.lane-lane.result + (c.args.end - c.lane-lane.result) / 2 in
    let one = c.join-one.result.0.lines in
    let two = c.join-one.result.1.lines in
    let L = c.join-2.new.pass.lines in
    let left = subst (λ (k : Known). HadTurns day w round k.lane middle k.lines one) c.fork-other.ensures.same c.join-one.ensures.first.1.1.1 in
    let right = subst (λ (k : Known). HadTurns day w round k.lane c.args.end k.lines two) c.fork-other.ensures.new c.join-one.ensures.second.1.1.1 in
    turns_both day w round lane middle c.args.end P L (turns_kept day w round lane middle P one L c.join-2.ensures.this left) (turns_kept day w round middle c.args.end P two L c.join-2.ensures.that right)

-- ---- no messages

pub returns-then-is_idle-clause-taken : goal.returns-then-is_idle-clause-taken
returns-then-is_idle-clause-taken g t c =
    let w = c.args.lanes.now.workers in
    let idle : is_idle g.H.HallName.day w c.args.round c.args.pass.lane c.args.end ≡ true =
    sym (c.is_idle.ensures ∙ (λ j. is_idle (c.setting.ensures j) w c.args.round (c.lane-lane.ensures j) c.args.end)) ∙ c.if-is_idle.true in
    idle_taken g.H.HallName.day w c.args.round c.args.pass.lane c.args.end c.args.pass.lines c.requires.lane.1 idle

pub returns-then-is_idle-clause-turns : goal.returns-then-is_idle-clause-turns
returns-then-is_idle-clause-turns g t c =
    let w = c.args.lanes.now.workers in
    let idle : is_idle g.H.HallName.day w c.args.round c.args.pass.lane c.args.end ≡ true =
    sym (c.is_idle.ensures ∙ (λ j. is_idle (c.setting.ensures j) w c.args.round (c.lane-lane.ensures j) c.args.end)) ∙ c.if-is_idle.true in
    idle_turns g.H.HallName.day w c.args.round c.args.pass.lane c.args.end c.args.pass.lines c.args.pass.lines c.requires.lane.1 idle

-- ---- both halves in one thread

pub returns-then-not-is_shared-clause-seen : goal.returns-then-not-is_shared-clause-seen
returns-then-not-is_shared-clause-seen g t c =
    let day = g.H.HallName.day in
    let one = c.work_lanes-first.result.lines in
    let two = c.work_lanes-second.result.lines in
    let left = subst (λ (k : Known). GoesOn day k.lines one) c.fork-other.ensures.same c.work_lanes-first.ensures.seen in
    let right = subst (λ (k : Known). GoesOn day k.lines two) c.fork-other.ensures.new c.work_lanes-second.ensures.seen in
    goes_both day c.args.pass.lines one two c.join.new.pass.lines left right (ap (λ (k : Known). k.lines) c.join.ensures.seen) c.join.ensures.this

pub returns-then-not-is_shared-clause-taken : goal.returns-then-not-is_shared-clause-taken
returns-then-not-is_shared-clause-taken g t c =
    let day = g.H.HallName.day in
    let w = c.args.lanes.now.workers in
    let round = c.args.round in
    let lane = c.args.pass.lane in
    let middle : ℕ = c.lane-lane.result + (c.args.end - c.lane-lane.result) / 2 in
    let one = c.work_lanes-first.result.lines in
    let two = c.work_lanes-second.result.lines in
    let L = c.join.new.pass.lines in
    let left = subst (λ (k : Known). AreLanesTaken day w round k.lane middle one) c.fork-other.ensures.same c.work_lanes-first.ensures.taken in
    let right = subst (λ (k : Known). AreLanesTaken day w round k.lane c.args.end two) c.fork-other.ensures.new c.work_lanes-second.ensures.taken in
    lanes_both day w round lane middle c.args.end L (lanes_kept day w round lane middle one L c.join.ensures.this left) (lanes_kept day w round middle c.args.end two L c.join.ensures.that right)

pub returns-then-not-is_shared-clause-turns : goal.returns-then-not-is_shared-clause-turns
returns-then-not-is_shared-clause-turns g t c =
    let day = g.H.HallName.day in
    let w = c.args.lanes.now.workers in
    let round = c.args.round in
    let lane = c.args.pass.lane in
    let P = c.args.pass.lines in
    let middle : ℕ = c.lane-lane.result + (c.args.end - c.lane-lane.result) / 2 in
    let one = c.work_lanes-first.result.lines in
    let two = c.work_lanes-second.result.lines in
    let L = c.join.new.pass.lines in
    let left = subst (λ (k : Known). HadTurns day w round k.lane middle k.lines one) c.fork-other.ensures.same c.work_lanes-first.ensures.turns in
    let right = subst (λ (k : Known). HadTurns day w round k.lane c.args.end k.lines two) c.fork-other.ensures.new c.work_lanes-second.ensures.turns in
    turns_both day w round lane middle c.args.end P L (turns_kept day w round lane middle P one L c.join.ensures.this left) (turns_kept day w round middle c.args.end P two L c.join.ensures.that right)
