use Rattle.std.proofs.Common.{◌+◌, ◌*◌, ◌∙◌, arith}
use Rattle.std.specs.Prelude.{nat_eq}
use Rattle.std.proofs.lemmas.List.{get_or_read}
use Rattle.lane_workers.specs.Stints.{stint_count}
use Rattle.lane_workers.proofs.StintFacts.{begin_at, begin_count, end_within}
use Rattle.lane_workers.proofs.lanes.Lanes.is_idle.Goals as goal

pub index-before-requires : goal.index-before-requires
index-before-requires c =
    let day = c.args.setting.now.day in
    let w = c.args.self.now.workers in
    let within = end_within day w c.args.round c.args.end c.requires.round c.requires.range.1 c.requires.lanes.some in
    let count = begin_count day w (stint_count day w) c.args.self.now.stints c.requires.lanes.stints in
    let rise = c.requires.range.0 in
    omega (arith, c.args.self.now.stints.begins.ok.0, within, count, rise)

pub index-behind-requires : goal.index-behind-requires
index-behind-requires c =
    let day = c.args.setting.now.day in
    let w = c.args.self.now.workers in
    let within = end_within day w c.args.round c.args.end c.requires.round c.requires.range.1 c.requires.lanes.some in
    let count = begin_count day w (stint_count day w) c.args.self.now.stints c.requires.lanes.stints in
    omega (arith, c.args.self.now.stints.begins.ok.0, within, count)

pub returns : goal.returns
returns c =
    let day = c.args.setting.now.day in
    let w = c.args.self.now.workers in
    let xs = c.args.self.now.stints.begins.items in
    let within = end_within day w c.args.round c.args.end c.requires.round c.requires.range.1 c.requires.lanes.some in
    let count = begin_count day w (stint_count day w) c.args.self.now.stints c.requires.lanes.stints in
    let rise = c.requires.range.0 in
    let low = get_or_read xs (c.args.round * w + c.args.from) c.index-before.result.now (omega (arith, within, count, rise)) c.index-before.ensures 0
    ∙ begin_at day w (stint_count day w) c.args.self.now.stints (c.args.round * w + c.args.from) c.requires.lanes.stints (omega (arith, within, rise)) in
    let high = get_or_read xs (c.args.round * w + c.args.end) c.index-behind.result.now (omega (arith, within, count)) c.index-behind.ensures 0
    ∙ begin_at day w (stint_count day w) c.args.self.now.stints (c.args.round * w + c.args.end) c.requires.lanes.stints within in
    λ j. nat_eq (low j) (high j)
