use Rattle.std.proofs.Common.{take}
use Rattle.std.specs.List.{flat_map}
use Rattle.outside_io.specs.Pieces.{HasPut}
use Rattle.day_page.specs.WaitTexts.{queue_text}
use Rattle.day_page.proofs.waiting.put_queues_of.Given as goal

abbrev pub invariant-loop-p : goal.invariant-loop-p
invariant-loop-p g l =
    HasPut (g.S.Sink.state l.initial.sink) (g.S.Sink.state l.sink) (flat_map (queue_text l.waiting l.peaks) (take l.p-index l.priorities))
