-- How many of the machine's lines a text begins with, by the verdict on it.
use Rattle.std.specs.Prelude.{ℕ, ◌-◌}
use Rattle.journal_replay.specs.declared.judging.Verdict.{Verdict}
use Rattle.journal_replay.specs.declared.judging.Verdict.TheVariants as verdicts

abbrev pub lines_in : Verdict → ℕ
lines_in (verdicts.Legal lines) = lines
lines_in (verdicts.Illegal place) = place - 1
