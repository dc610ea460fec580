use Rattle.std.proofs.Common.{take}
use Rattle.std.specs.List.{flat_map}
use Rattle.commit_journal.specs.Histories.{oldest}
use Rattle.outside_io.specs.Pieces.{HasPut}
use Rattle.day_page.specs.CountTexts.{outcome_row}
use Rattle.day_page.proofs.counting.put_outcome_rows_of.Given as goal

abbrev pub invariant-loop-class : goal.invariant-loop-class
invariant-loop-class g l =
    HasPut (g.S.Sink.state l.initial.sink) (g.S.Sink.state l.sink) (flat_map (outcome_row l.past.setting.now.day l.request (oldest l.past.journal.now.history l.past.place)) (take l.class-index l.classes))
