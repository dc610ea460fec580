-- The answers of the program: a status and a text for the bytes that it was given.
use Rattle.std.specs.Prelude.{ℕ, ◌+◌, if◌then◌else◌, List, [], ◌∷◌, length, Result, Ok, Err, decimal, codes}
use Rattle.outside_io.specs.TextLine.{text_line}
use Rattle.batch_records.specs.DayRecord.{Day}
use Rattle.batch_records.specs.declared.day.DayCode.TheVariants as day_codes
use Rattle.batch_records.specs.DayTexts.{day_text}
use Rattle.batch_records.specs.DayPart.{is_line_ends}
use Rattle.batch_records.specs.Meets.{migrated}
use Rattle.commit_journal.specs.Line.{History}
use Rattle.program_answers.specs.Answers.{Answer, done, illegal, ok_text, refused}
use Rattle.program_answers.specs.Inputs.{answer_of_input}
use Rattle.program_answers.specs.Limits.{longest_input}
use Rattle.journal_replay.specs.declared.judging.Verdict.{Verdict}
use Rattle.journal_replay.specs.declared.judging.Verdict.TheVariants as verdicts
use Rattle.journal_replay.specs.Verdicts.{verdict}
use Rattle.as_client.specs.Views.{text_lines, view}
use Rattle.trial_day.specs.Summary.{summary}
use Rattle.rtgs_engine.specs.Outputs.{output}
use Rattle.rtgs_engine.specs.declared.words.Command.{Command}
use Rattle.rtgs_engine.specs.declared.words.Command.TheVariants as commands
use Rattle.rtgs_engine.specs.declared.words.Trial.{Trial}

-- a journal that is legal, with the number of its lines
abbrev pub legal_text : ℕ → List ℕ
legal_text lines = text_line (codes "LEGAL" ∷ decimal lines ∷ [])

-- this text, where only line ends follow a day with so many records
abbrev pub if_alone : List ℕ → ℕ → List ℕ → Answer
if_alone rest records text = if is_line_ends rest then done text else refused (records + 1) day_codes.Place

abbrev pub answer_of_verdict : Verdict → Answer
answer_of_verdict (verdicts.Legal lines) = done (legal_text lines)
answer_of_verdict (verdicts.Illegal place) = illegal place

-- of a party's report, or the number of the line that it refuses
abbrev pub answer_of_view : Result (List ℕ) ℕ → Answer
answer_of_view (Ok report) = done report
answer_of_view (Err line) = illegal line

-- a trial's answer speaks of no journal
abbrev pub tried : Trial → Answer
tried trial = done (summary trial.seed trial.batches)

-- the answer over a day and what follows it, with the number of the day's records, where this journal is made of the day
abbrev pub answer_of_day : Command → Day → History → List ℕ → ℕ → Answer
answer_of_day (commands.Settle workers) day journal rest records = if_alone rest records (output day journal)
answer_of_day commands.Check day journal rest records = if_alone rest records (ok_text (length day.messages))
answer_of_day commands.Migrate day journal rest records = if_alone rest records (day_text (migrated day))
answer_of_day commands.Replay day journal rest records = answer_of_verdict (verdict day rest)
answer_of_day (commands.Follow name) day journal rest records = answer_of_view (view day (text_lines rest) name)
answer_of_day (commands.Trial trial) day journal rest records = tried trial

-- the answer to a command that reads, over an input of these bytes, where this journal is made of its day
abbrev pub answer_of : Command → History → List ℕ → Answer
answer_of command journal bytes = answer_of_input longest_input (λ day rest records. answer_of_day command day journal rest records) bytes
