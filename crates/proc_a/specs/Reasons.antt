-- The reasons of a batch of A: the rows of the tables of reasons that can apply to one.
use Rattle.std.specs.Prelude.{ℕ, ◌&&◌, [], ◌∷◌, Option, option_map, is_some}
use Rattle.std.specs.List.{find}
use Rattle.batch_records.specs.DayRecord.{Day}
use Rattle.commit_journal.specs.declared.line.Want.{Want}
use Rattle.commit_journal.specs.declared.line.Want.TheVariants as wants
use Rattle.commit_journal.specs.Line.{History}
use Rattle.machine.specs.declared.answers.Why.{Why}
use Rattle.machine.specs.declared.answers.Why.TheVariants as whys
use Rattle.machine.specs.Words.{first_some, only_if, unless, when}
use Rattle.machine.specs.Records.Messages.{entry_at, is_debit, is_credit, item_numbers}
use Rattle.machine.specs.Telling.History.{booked, covered}
use Rattle.machine.specs.Stages.Phases.{phase, is_open}
use Rattle.machine.specs.Stages.Pending.{first_unbooked_debit}
use Rattle.machine.specs.Making.Lines.{may_book, may_expire}
use Rattle.machine.specs.Making.Reasons.{over, untaken, other_phase, is_open_or_covered}

-- why entry k isn't pending
unfoldable pub why_not_pending : Day → History → ℕ → ℕ → Option Why
why_not_pending day J n k = first_some (
    over J
    ∷ unless (is_some (entry_at day n k)) whys.NoSuch
    ∷ untaken J n
    ∷ other_phase day J n (is_open_or_covered (phase day J n))
    ∷ option_map whys.Booked (booked J n k)
    ∷ option_map whys.Covered (only_if (is_debit day n k) (covered J n))
    ∷ option_map whys.Debits (only_if (is_open (phase day J n) && is_credit day n k) (first_unbooked_debit day J n))
    ∷ [])

-- the first want of the batch that has a line unless the day has ended
unfoldable pub next_want : Day → History → ℕ → Option Want
next_want day J n = first_some (
    option_map (wants.Book n) (find (may_book day J n) (item_numbers day n))
    ∷ when (may_expire day J n) (wants.Expire n)
    ∷ [])
