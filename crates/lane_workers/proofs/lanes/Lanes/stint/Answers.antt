use Rattle.std.proofs.Common.{◌+◌, ◌*◌, ◌∙◌, List, ℕ, ap, arith, length}
use Rattle.std.specs.Prelude.{slice_range}
use Rattle.std.proofs.lemmas.List.{get_or_read}
use Rattle.lane_workers.specs.Stints.{stint_count}
use Rattle.lane_workers.proofs.StintFacts.{begin_count, place_within, stint_at}
use Rattle.lane_workers.proofs.lanes.Lanes.stint.Goals as goal

pub index-begin-requires : goal.index-begin-requires
index-begin-requires c =
    let day = c.args.setting.now.day in
    let w = c.args.self.now.workers in
    let within = place_within day w c.args.round c.args.lane c.requires.round c.requires.lane in
    let count = begin_count day w (stint_count day w) c.args.self.now.stints c.requires.lanes.stints in
    omega (arith, c.args.self.now.stints.begins.ok.0, within, count)

pub index-end-requires : goal.index-end-requires
index-end-requires c =
    let day = c.args.setting.now.day in
    let w = c.args.self.now.workers in
    let within = place_within day w c.args.round c.args.lane c.requires.round c.requires.lane in
    let count = begin_count day w (stint_count day w) c.args.self.now.stints c.requires.lanes.stints in
    omega (arith, c.args.self.now.stints.begins.ok.0, within, count)

pub part-requires : goal.part-requires
part-requires c =
    let day = c.args.setting.now.day in
    let w = c.args.self.now.workers in
    let xs = c.args.self.now.stints.begins.items in
    let within = place_within day w c.args.round c.args.lane c.requires.round c.requires.lane in
    let count = begin_count day w (stint_count day w) c.args.self.now.stints c.requires.lanes.stints in
    let k : ℕ = c.args.round * w + c.args.lane in
    let at = stint_at day w (stint_count day w) c.args.round c.args.lane c.args.self.now.stints c.index-begin.result.now c.index-end.result.now c.requires.lanes.stints c.requires.lane within
    (get_or_read xs k c.index-begin.result.now (omega (arith, within, count)) c.index-begin.ensures 0)
    (get_or_read xs (k + 1) c.index-end.result.now (omega (arith, within, count)) c.index-end.ensures 0) in
    let high = at.within in
    (at.rises, omega (arith, high, ap length c.deref.ensures.value))

pub returns : goal.returns
returns c =
    let day = c.args.setting.now.day in
    let w = c.args.self.now.workers in
    let xs = c.args.self.now.stints.begins.items in
    let within = place_within day w c.args.round c.args.lane c.requires.round c.requires.lane in
    let count = begin_count day w (stint_count day w) c.args.self.now.stints c.requires.lanes.stints in
    let k : ℕ = c.args.round * w + c.args.lane in
    let at = stint_at day w (stint_count day w) c.args.round c.args.lane c.args.self.now.stints c.index-begin.result.now c.index-end.result.now c.requires.lanes.stints c.requires.lane within
    (get_or_read xs k c.index-begin.result.now (omega (arith, within, count)) c.index-begin.ensures 0)
    (get_or_read xs (k + 1) c.index-end.result.now (omega (arith, within, count)) c.index-end.ensures 0) in
    c.part.ensures ∙ ap (λ (os : List ℕ). slice_range os c.index-begin.result.now c.index-end.result.now) c.deref.ensures.value ∙ at.part
