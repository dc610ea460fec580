use Rattle.std.proofs.Common.{◌≡◌, ◌+◌, length}
use Rattle.day_reasons.specs.Works.{IsAlong, lines_of}
use Rattle.day_reasons.proofs.work.Work.go_on.Given as goal

abbrev pub invariant-loop-read : goal.invariant-loop-read
invariant-loop-read l = record {
  along : IsAlong l.setting.day l.whole l.self l.rest;
  lines : length (lines_of l.self) ≡ length (lines_of l.initial.self) + l._read;
}
