-- What the program promises of a run.
use Rattle.std.specs.Prelude.{ℕ, List}
use Rattle.program_answers.specs.Programs.{Program, Promises}
use Rattle.program_answers.specs.Runs.{Run}
use Rattle.journal_reading.specs.Answers.{Told}
use Rattle.journal_reading.specs.Programs.{IsTold, journal_program}
use Rattle.liquidity_view.specs.declared.words.Request.{Request}
use Rattle.liquidity_view.specs.Requests.{request_of, usage_text}
use Rattle.liquidity_view.specs.Viewed.{view_text}

-- what is told of a legal journal: the figures over it for each place that is asked for, and the number of its lines
abbrev pub viewed : Request → Told
viewed r day journal = view_text day r journal

-- status 0
abbrev pub IsViewed : Request → List ℕ → List ℕ → Type 0
IsViewed r = IsTold (viewed r)

abbrev pub liquidity_program : Program Request
liquidity_program = journal_program request_of usage_text viewed IsViewed

abbrev pub ViewPromises : Run → Type 0
ViewPromises = Promises liquidity_program
