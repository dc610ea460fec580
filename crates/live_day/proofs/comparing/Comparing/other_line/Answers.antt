use Rattle.std.proofs.Common.{◌∙◌, arith, sym}
use Rattle.std.proofs.lemmas.List.{length-take-le}
use Rattle.outside_io.specs.GhostTexts.{bytes_of}
use Rattle.live_day.proofs.PlaceFacts.{common_inside, differing_at}
use Rattle.live_day.proofs.comparing.Comparing.other_line.Goals as goal

pub slice_bounds-lines-end : goal.slice_bounds-lines-end
slice_bounds-lines-end g c =
    let inside = common_inside c.args.self.now.wanted.now (bytes_of c.args.self.now.past.now.text) in
    sym (length-take-le c.args.self.now.at c.args.self.now.wanted.now (omega (arith, c.args.self.now.at_is, inside)))

pub returns : goal.returns
returns g c = differing_at _ _ _ _ c.args.self.now.at_is (sym c.is_beyond.ensures ∙ c.if-is_beyond.false) c.lines.ensures.count
