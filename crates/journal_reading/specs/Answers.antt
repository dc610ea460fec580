-- The answer of a program that tells something of a legal journal: a status and a text for the bytes that it was given.
use Rattle.std.specs.Prelude.{ℕ, suc, if◌then◌else◌, List, length}
use Rattle.batch_records.specs.DayRecord.{Day}
use Rattle.commit_journal.specs.Line.{History}
use Rattle.program_answers.specs.Answers.{Answer, done, illegal}
use Rattle.program_answers.specs.Inputs.{answer_of_input}
use Rattle.program_answers.specs.Limits.{longest_long_input}
use Rattle.machine.specs.Words.{is_empty}
use Rattle.journal_replay.specs.Verdicts.{longest}

-- how many bytes an input may have
abbrev pub longest_input : ℕ
longest_input = longest_long_input

-- what is told of a legal journal of a day
abbrev pub Told : Type 0
Told = Day → History → List ℕ

-- that, where nothing follows the legal journal with which the rest begins; else the first place that goes wrong
abbrev pub answer_of_followed : Told → Day → History × List ℕ → Answer
answer_of_followed told day read = if is_empty read.1 then done (told day read.0) else illegal (suc (length read.0))

abbrev pub answer_of_rest : Told → Day → List ℕ → Answer
answer_of_rest told day rest = answer_of_followed told day (longest day rest)

-- the answer over an input of these bytes
abbrev pub answer_of : Told → List ℕ → Answer
answer_of told bytes = answer_of_input longest_input (λ day rest records. answer_of_rest told day rest) bytes
