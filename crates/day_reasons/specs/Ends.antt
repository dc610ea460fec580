-- How an answer ends, once the messages are told.
use Rattle.std.specs.Prelude.{ℕ, Bool, true, false, if◌then◌else◌, List, ◌++◌, Option, Some, None, length, nat_le}
use Rattle.batch_records.specs.DayRecord.{Day}
use Rattle.commit_journal.specs.Line.{History}
use Rattle.machine.specs.Words.{is_empty}
use Rattle.journal_replay.specs.declared.judging.Verdict.{Verdict}
use Rattle.journal_replay.specs.declared.judging.Verdict.TheVariants as verdicts
use Rattle.program_answers.specs.Answers.{Answer, done, ok_text}
use Rattle.day_reasons.specs.declared.words.Request.{Request}
use Rattle.day_reasons.specs.Wrong.{wrong_text}

-- all is well, where nothing follows the machine's lines; or what is wrong there
abbrev pub end_answer : Day → History → List ℕ → Answer
end_answer day before behind = if is_empty behind then done (ok_text (length day.messages)) else record { status = 6; text = wrong_text day before behind }

-- the answer begins with this text
abbrev pub after_text : List ℕ → Answer → Answer
after_text text answer = record { status = answer.status; text = text ++ answer.text }

-- over how many of so many lines is told
abbrev pub lines_up_to : Option ℕ → ℕ → ℕ
lines_up_to None count = count
lines_up_to (Some place) count = if nat_le place count then place else count

abbrev pub lines_before : Request → ℕ → ℕ
lines_before r count = lines_up_to r.place count

-- the text is known to end behind the machine's lines
abbrev pub is_whole : Verdict → Bool
is_whole (verdicts.Legal lines) = true
is_whole (verdicts.Illegal place) = false
