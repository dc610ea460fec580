-- Which messages are taken, as a round needs it before it is finished.
use Rattle.std.specs.Prelude.{ℕ, ◌<◌, ◌≤◌, Bool, true, false, IsSome, length}
use Rattle.batch_records.specs.DayRecord.{Day}
use Rattle.commit_journal.specs.Line.{History}
use Rattle.machine.specs.declared.answers.Why.{Why}
use Rattle.machine.specs.declared.answers.Why.TheVariants as whys
use Rattle.machine.specs.Telling.History.{taken}
use Rattle.machine.specs.Records.Messages.{round_of}
use Rattle.lock_book.specs.declared.counted.Stepped.{Stepped}
use Rattle.lock_book.specs.declared.counted.Stepped.TheVariants.{Made, NotNow}

-- each message of the rounds up to this one is taken
abbrev pub AreTaken : Day → ℕ → History → Type 0
AreTaken day round J = (n : ℕ) → 0 < n → n ≤ length day.messages → round_of day n ≤ round → IsSome (taken J n)

-- what is told of the want to take a message says that it is taken: its line was made, or stood there, or the day is over
abbrev pub is_taken_already : Why → Bool
is_taken_already (whys.Taken place) = true
is_taken_already (whys.Over place) = true
is_taken_already _ = false

abbrev pub tells_of_taken : Stepped → Bool
tells_of_taken (Made place head) = true
tells_of_taken (NotNow seen reason) = is_taken_already reason
