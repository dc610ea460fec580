-- What the program promises of a run.
use Rattle.std.specs.Prelude.{ℕ, ◌≡◌, ◌+◌, ◌≤◌, ◌⊎◌, ◌↔◌, Bool, true, false, List, length, Ok, Err, IfOk}
use Rattle.batch_records.specs.DayRecord.{Day}
use Rattle.batch_records.specs.declared.day.DayCode.TheVariants as day_codes
use Rattle.batch_records.specs.Counts.{record_count}
use Rattle.batch_records.specs.Days.{day_of_bytes}
use Rattle.batch_records.specs.DayPart.{is_line_ends}
use Rattle.batch_records.specs.DayTexts.{day_text}
use Rattle.batch_records.specs.Meets.{migrated}
use Rattle.batch_records.specs.Sound.{is_sound}
use Rattle.commit_journal.specs.Line.{History}
use Rattle.commit_journal.specs.TypedLines.{AreTyped}
use Rattle.program_answers.specs.Answers.{Answer, illegal_text, ok_text, refusal_text}
use Rattle.program_answers.specs.Inputs.{IsGiven, IsRefused, IsTooLong}
use Rattle.program_answers.specs.Limits.{longest_input}
use Rattle.program_answers.specs.Programs.{Program, Promises, WroteNothing}
use Rattle.program_answers.specs.Runs.{Run}
use Rattle.machine.specs.Laws.{Laws}
use Rattle.machine.specs.Legal.{IsLegal, is_complete}
use Rattle.machine.specs.Orders.Order.{plain}
use Rattle.journal_replay.specs.Verdicts.{IsWholeJournal, GoesWrongAt}
use Rattle.as_client.specs.JournalViews.{view_of}
use Rattle.as_client.specs.Views.{text_lines, view}
use Rattle.rtgs_engine.specs.declared.words.Command.{Command}
use Rattle.rtgs_engine.specs.declared.words.Command.TheVariants as commands
use Rattle.rtgs_engine.specs.declared.words.Trial.{Trial}
use Rattle.trial_day.specs.Summary.{summary, summary_of_journal}
use Rattle.trial_day.specs.Trial.{generated}
use Rattle.rtgs_engine.specs.CommandLines.{command_of, reads, usage_text, workers_of}
use Rattle.rtgs_engine.specs.Journals.{IsOfDay}
use Rattle.rtgs_engine.specs.Outputs.{output}
use Rattle.rtgs_engine.specs.Answers.{answer_of, legal_text}

-- ---- status 0: it was done

-- What was written is the output of one journal of the day. No other list of lines has this output, legal or not, as long as
-- its numbers are such as a line in hand can have; and from it each party learns by the messages addressed to it alone what the
-- journal says of its accounts and its messages.
pub record IsSettled (workers : ℕ) (bytes text : List ℕ) : Type 0 where
  pub day : Day
  pub rest : List ℕ
  pub given : IsGiven longest_input bytes day rest
  pub alone : is_line_ends rest ≡ true
  pub journal : History
  pub of_day : IsOfDay workers day journal
  pub is : text ≡ output day journal
  pub one : (other : History) → AreTyped other → output day other ≡ output day journal → other ≡ journal
  pub views : (name : List ℕ) → view day (text_lines (output day journal)) name ≡ Ok (view_of day journal name)

-- what was written is the number of the day's messages
pub record IsChecked (bytes text : List ℕ) : Type 0 where
  pub day : Day
  pub rest : List ℕ
  pub given : IsGiven longest_input bytes day rest
  pub alone : is_line_ends rest ≡ true
  pub is : text ≡ ok_text (length day.messages)

-- What was written is a day file of version 2, and of version 3 where the day that was read is of that, as version 2 may have no room
-- for it. It is read as the day that was read, but for the version. A journal is legal for the one exactly where it is legal for the
-- other, and has the same output; the written order is the same one, so that without workers the two settle alike.
pub record IsMigrated (bytes text : List ℕ) : Type 0 where
  pub day : Day
  pub rest : List ℕ
  pub given : IsGiven longest_input bytes day rest
  pub alone : is_line_ends rest ≡ true
  pub is : text ≡ day_text (migrated day)
  pub read_back : day_of_bytes (day_text (migrated day)) ≡ Ok (migrated day, length (day_text (migrated day)))
  pub legal : (journal : History) → IsLegal (migrated day) journal ↔ IsLegal day journal
  pub written_order : plain (migrated day) ≡ plain day
  pub told : (journal : History) → output (migrated day) journal ≡ output day journal

-- After the day stands the text of a complete legal journal of it and nothing else. The journal keeps the laws, and the
-- number of its lines was written.
pub record IsReplayed (bytes text : List ℕ) : Type 0 where
  pub day : Day
  pub rest : List ℕ
  pub given : IsGiven longest_input bytes day rest
  pub lines : ℕ
  pub whole : IsWholeJournal day rest lines
  pub laws : Laws day whole.journal
  pub is : text ≡ legal_text lines

-- what was written is what the party knows by the messages addressed to it among the lines after the day
pub record IsFollowed (name bytes text : List ℕ) : Type 0 where
  pub day : Day
  pub rest : List ℕ
  pub given : IsGiven longest_input bytes day rest
  pub viewed : view day (text_lines rest) name ≡ Ok text

abbrev pub IsDone : Command → List ℕ → List ℕ → Type 0
IsDone (commands.Settle workers) bytes text = IsSettled workers bytes text
IsDone commands.Check bytes text = IsChecked bytes text
IsDone commands.Migrate bytes text = IsMigrated bytes text
IsDone commands.Replay bytes text = IsReplayed bytes text
IsDone (commands.Follow name) bytes text = IsFollowed name bytes text
IsDone (commands.Trial trial) bytes text = ⊥

-- ---- status 3: the day was refused

-- only line ends may follow the day
abbrev pub takes_no_rest : Command → Bool
takes_no_rest (commands.Settle workers) = true
takes_no_rest commands.Check = true
takes_no_rest commands.Migrate = true
takes_no_rest _ = false

-- The bytes are a day, and what follows it is more than line ends, where no more may follow. It is refused as the record
-- after the day's last.
pub record IsRestRefused (command : Command) (bytes text : List ℕ) : Type 0 where
  pub alone : takes_no_rest command ≡ true
  pub day : Day
  pub rest : List ℕ
  pub given : IsGiven longest_input bytes day rest
  pub more : is_line_ends rest ≡ false
  pub is : text ≡ refusal_text (record_count day + 1) day_codes.Place

-- ---- status 6: what stands after the day isn't right

-- what follows the day goes wrong at the place that was written: it has no line there, or another one than the machine's
pub record IsIllegal (bytes text : List ℕ) : Type 0 where
  pub day : Day
  pub rest : List ℕ
  pub given : IsGiven longest_input bytes day rest
  pub place : ℕ
  pub wrong : GoesWrongAt day rest place
  pub is : text ≡ illegal_text place

-- The message in the line whose number was written is addressed to the party, and moves money on an account that isn't the
-- party's, or more of it than the account holds or may hold.
pub record IsRefusedBy (name bytes text : List ℕ) : Type 0 where
  pub day : Day
  pub rest : List ℕ
  pub given : IsGiven longest_input bytes day rest
  pub line : ℕ
  pub refused : view day (text_lines rest) name ≡ Err line
  pub is : text ≡ illegal_text line

abbrev pub IsWrong : Command → List ℕ → List ℕ → Type 0
IsWrong commands.Replay bytes text = IsIllegal bytes text
IsWrong (commands.Follow name) bytes text = IsRefusedBy name bytes text
IsWrong _ bytes text = ⊥

-- ---- all answers

-- Of a command that reads, each answer is one of these: it was done; the day was refused, or what follows it; what stands after
-- the day isn't right; the input is too long.
abbrev pub IsOneOf : Command → List ℕ → Answer → Type 0
IsOneOf command bytes answer =
    ((answer.status ≡ 0) × IsDone command bytes answer.text)
    ⊎ (((answer.status ≡ 3) × (IsRefused longest_input bytes answer.text ⊎ IsRestRefused command bytes answer.text))
    ⊎ (((answer.status ≡ 6) × IsWrong command bytes answer.text) ⊎ ((answer.status ≡ 7) × IsTooLong longest_input bytes answer.text)))

-- where the bytes are a day, the journal is one of it, as said above
abbrev pub IsMadeOf : Command → List ℕ → History → Type 0
IsMadeOf command bytes journal = IfOk (day_of_bytes bytes) (λ read. IsOfDay (workers_of command) read.0 journal)

-- It is the answer that is defined for the bytes and a journal of their day. Without workers there is one such journal, and so one
-- answer to the bytes.
pub record IsInputAnswer (command : Command) (bytes : List ℕ) (answer : Answer) : Type 0 where
  pub journal : History
  pub of_day : length bytes ≤ longest_input → IsMadeOf command bytes journal
  pub is : answer ≡ answer_of command journal bytes
  pub one_of : IsOneOf command bytes answer

-- The text is the summary of the trial's day. That speaks of no journal, and every complete legal journal of that day comes to it,
-- whoever made its lines and in which order. The day is sound, and its file is read as that day.
pub record IsTried (trial : Trial) (text : List ℕ) : Type 0 where
  pub sound : is_sound (generated trial.seed trial.batches) ≡ true
  pub read_back : day_of_bytes (day_text (generated trial.seed trial.batches)) ≡
      Ok (generated trial.seed trial.batches, length (day_text (generated trial.seed trial.batches)))
  pub is : text ≡ summary trial.seed trial.batches
  pub every : (journal : History) → IsLegal (generated trial.seed trial.batches) journal → is_complete journal ≡ true →
      summary_of_journal (generated trial.seed trial.batches) journal ≡ summary trial.seed trial.batches

-- a trial is done, and nothing is read for it
abbrev pub IsAnswer : Command → List ℕ → Answer → Type 0
IsAnswer (commands.Trial trial) bytes answer = (answer.status ≡ 0) × IsTried trial answer.text
IsAnswer command bytes answer = IsInputAnswer command bytes answer

-- ---- the program

abbrev pub rtgs_program : Program Command
rtgs_program = record {
  request_of = command_of;
  usage_text = usage_text;
  reads = reads;
  longest_input = longest_input;
  IsAnswer = IsAnswer;
  RanShort = WroteNothing longest_input;
}

abbrev pub RtgsPromises : Run → Type 0
RtgsPromises = Promises rtgs_program
