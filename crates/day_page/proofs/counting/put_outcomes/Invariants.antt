use Rattle.std.proofs.Common.{take}
use Rattle.std.specs.List.{flat_map}
use Rattle.commit_journal.specs.Histories.{oldest}
use Rattle.outside_io.specs.Pieces.{HasPut}
use Rattle.day_page.specs.CountTexts.{outcome_cell}
use Rattle.day_page.proofs.counting.put_outcomes.Given as goal

abbrev pub invariant-loop-outcome : goal.invariant-loop-outcome
invariant-loop-outcome g l =
    HasPut (g.S.Sink.state l.initial.sink) (g.S.Sink.state l.sink) (flat_map (outcome_cell l.past.setting.now.day l.request (oldest l.past.journal.now.history l.past.place) l.class) (take l.outcome-index l.outcomes))
