use Rattle.std.proofs.Common.{take}
use Rattle.std.specs.List.{flat_map}
use Rattle.outside_io.specs.Pieces.{HasPut}
use Rattle.day_page.specs.BarTexts.{bar_part}
use Rattle.day_page.proofs.drawing.put_picture.Given as goal

abbrev pub invariant-loop-mark : goal.invariant-loop-mark
invariant-loop-mark g l =
    HasPut (g.S.Sink.state l.initial.sink) (g.S.Sink.state l.sink) (flat_map (bar_part l.end l.n) (take l.mark-index l.changes))
