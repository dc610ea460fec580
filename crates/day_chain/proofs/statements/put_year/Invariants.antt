use Rattle.std.proofs.Common.{take}
use Rattle.std.specs.List.{flat_map}
use Rattle.outside_io.specs.Pieces.{HasPut}
use Rattle.machine.specs.Words.{numbers}
use Rattle.day_chain.specs.YearTexts.{year_line}
use Rattle.day_chain.proofs.statements.put_year.Given as goal

abbrev pub invariant-loop-before : goal.invariant-loop-before
invariant-loop-before g l =
    HasPut (g.S.Sink.state l.initial.sink) (g.S.Sink.state l.sink) (flat_map (year_line l.accounts l.book) (take l.before (numbers l.accounts)))
