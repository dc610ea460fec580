use Rattle.std.proofs.Common.{◌≡◌, ◌+◌, ◌∙◌, List, ℕ, length, get_or, ap, arith}
use Rattle.std.proofs.lemmas.List.FromFn.{get_or-map-range_with_len, length-map-range_with_len}
use Rattle.lane_workers.specs.Stints.{first_of}
use Rattle.lane_workers.proofs.lanes.Lanes.first.Goals as goal

pub index-requires : goal.index-requires
index-requires c =
    let day = c.args.setting.now.day in
    let le = c.requires.round in
    let count : length c.args.self.now.firsts.items ≡ length day.stops + 1 = ap length c.requires.lanes.firsts ∙ length-map-range_with_len (first_of day) 0 (length day.stops + 1) in
    omega (arith, c.args.self.now.firsts.ok.0, count, le)

pub returns : goal.returns
returns c =
    let day = c.args.setting.now.day in
    let le = c.requires.round in
    let d = c.index.result.now in
    c.index.ensures
    ∙ ap (λ (xs : List ℕ). get_or xs c.args.round d) c.requires.lanes.firsts
    ∙ get_or-map-range_with_len (first_of day) 0 (length day.stops + 1) c.args.round c.args.round d (omega (arith, le)) (omega arith)
