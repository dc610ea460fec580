-- What the program promises of a run.
use Rattle.std.specs.Prelude.{ℕ, List}
use Rattle.program_answers.specs.Programs.{Program, Promises}
use Rattle.program_answers.specs.Runs.{Run}
use Rattle.journal_reading.specs.Answers.{Told}
use Rattle.journal_reading.specs.Programs.{IsTold, journal_program}
use Rattle.day_page.specs.declared.words.Request.{Request}
use Rattle.day_page.specs.Laws.{FiguresHold}
use Rattle.day_page.specs.Pages.{page_text}
use Rattle.day_page.specs.Requests.{request_of, usage_text}

-- what is told of a legal journal: the page over it, for the party or the whole day
abbrev pub shown : Request → Told
shown r day journal = page_text day r journal

-- Status 0: it is told, and each series on the page ends where the journal does; what it calls the lowest and the highest balance is
-- that of the opening and of all lines, and the highest sum is that of all lines.
pub record IsShown (r : Request) (bytes text : List ℕ) : Type 0 where
  pub told : IsTold (shown r) bytes text
  pub figures : FiguresHold told.day r told.journal

abbrev pub page_program : Program Request
page_program = journal_program request_of usage_text shown IsShown

abbrev pub PagePromises : Run → Type 0
PagePromises = Promises page_program
