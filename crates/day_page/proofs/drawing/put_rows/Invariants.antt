use Rattle.std.proofs.Common.{take}
use Rattle.std.specs.List.{flat_map}
use Rattle.outside_io.specs.Pieces.{HasPut}
use Rattle.day_page.specs.BarTexts.{bar_row}
use Rattle.day_page.proofs.drawing.put_rows.Given as goal

abbrev pub invariant-loop-n : goal.invariant-loop-n
invariant-loop-n g l =
    HasPut (g.S.Sink.state l.initial.sink) (g.S.Sink.state l.sink) (flat_map (bar_row l.setting.day l.changes l.end) (take l.n-index l.bars))
