use Rattle.std.proofs.Common.{take}
use Rattle.std.specs.List.{flat_map}
use Rattle.commit_journal.specs.Histories.{oldest}
use Rattle.outside_io.specs.Pieces.{HasPut}
use Rattle.day_page.specs.CountTexts.{refusal_part}
use Rattle.day_page.proofs.counting.put_refusals.Given as goal

abbrev pub invariant-loop-code : goal.invariant-loop-code
invariant-loop-code g l =
    HasPut (g.S.Sink.state l.initial.sink) (g.S.Sink.state l.sink) (flat_map (refusal_part l.past.setting.now.day l.request (oldest l.past.journal.now.history l.past.place) l.class) (take l.code-index l.codes))
