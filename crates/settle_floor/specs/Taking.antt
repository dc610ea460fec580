-- Why a message isn't taken while the day goes on, and which is its sender's next one.
use Rattle.std.specs.Prelude.{ℕ, ◌≡◌, [], ◌∷◌, None, Option, option_map}
use Rattle.batch_records.specs.DayRecord.{Day}
use Rattle.commit_journal.specs.declared.line.Want.{Want}
use Rattle.commit_journal.specs.declared.line.Want.TheVariants as wants
use Rattle.commit_journal.specs.Line.{History}
use Rattle.machine.specs.declared.answers.Why.{Why}
use Rattle.machine.specs.declared.answers.Why.TheVariants as whys
use Rattle.machine.specs.Words.{first_some, unless}
use Rattle.machine.specs.Records.Messages.{is_message, round_of, sort_of}
use Rattle.machine.specs.Telling.History.{taken}
use Rattle.machine.specs.Telling.Facts.{is_reached, untaken_earlier}

-- besides that the End line may stand
unfoldable pub obstacle_in : Day → History → ℕ → Option Why
obstacle_in day J n = first_some (
    unless (is_message (sort_of day n)) whys.NoSuch
    ∷ option_map whys.Taken (taken J n)
    ∷ unless (is_reached day J n) (whys.Round (round_of day n))
    ∷ option_map whys.Earlier (untaken_earlier day J n)
    ∷ [])

-- where a message is wanted to be taken, each earlier one of its sender is
abbrev pub IsNext : Day → History → Want → Type 0
IsNext day J (wants.In n) = untaken_earlier day J n ≡ None
IsNext day J _ = Unit {0}
