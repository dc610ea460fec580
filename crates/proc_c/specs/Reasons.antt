-- The words of the machine for a batch of C alone. That they are the machine's is proved.
use Rattle.std.specs.Prelude.{ℕ, Bool, true, not, ◌&&◌, ◌||◌, List, [], ◌∷◌, Option, Some, None, nat_lt, option_map, is_some, is_none}
use Rattle.batch_records.specs.DayRecord.{Day}
use Rattle.commit_journal.specs.declared.line.Move.{Move}
use Rattle.commit_journal.specs.declared.line.Want.{Want}
use Rattle.commit_journal.specs.declared.line.Want.TheVariants as wants
use Rattle.commit_journal.specs.Line.{History}
use Rattle.machine.specs.declared.answers.Why.{Why}
use Rattle.machine.specs.declared.answers.Why.TheVariants as whys
use Rattle.machine.specs.Words.{first_some, is_sub, same_name, some_passes, unless, when}
use Rattle.machine.specs.Records.Messages.{debit_account, entry_at}
use Rattle.machine.specs.Telling.History.{booked}
use Rattle.machine.specs.Stages.Phases.{phase, is_booked, is_open}
use Rattle.machine.specs.Stages.Pending.{item}
use Rattle.machine.specs.Making.Lines.{may_expire}
use Rattle.machine.specs.Making.Reasons.{blocked_part, other_phase, over, short_part, untaken, why_waits}
use Rattle.rule_book.specs.Moves.{comes_from, goes_to, passes_at}

-- ---- the intake

-- a sub-account that is dedicated to this system
abbrev pub is_sub_at : Day → List ℕ → ℕ → Bool
is_sub_at day system a = passes_at day (λ r. is_sub r.kind && some_passes (λ link. same_name link system) r.system) a

-- the form of an entry, by its move
abbrev pub joins_sub : Day → List ℕ → Option ℕ → Move → Bool
joins_sub day system technical found = is_sub_at day system found.debit && goes_to technical found || comes_from technical found && is_sub_at day system found.credit

-- ---- Book

-- why an entry isn't booked now
unfoldable pub why_not_book_c : Day → History → ℕ → ℕ → Option Why
why_not_book_c day J n k = first_some (
    over J
    ∷ unless (is_some (entry_at day n k)) whys.NoSuch
    ∷ untaken J n
    ∷ other_phase day J n (is_open (phase day J n))
    ∷ option_map whys.Booked (booked J n k)
    ∷ blocked_part day J (item n k) (entry_at day n k)
    ∷ short_part day J n (entry_at day n k)
    ∷ [])

-- whether the entry is booked now
unfoldable pub may_book_c : Day → History → ℕ → ℕ → Bool
may_book_c day J n k = some_passes (λ e. is_open (phase day J n) && not (is_booked J n k) && is_none (why_waits day J (item n k) (debit_account day e) e.amount)) (entry_at day n k)

-- ---- Expire

-- the cycle of a batch has ended, where none is open now, or one that was started after the batch was taken
abbrev pub has_ended_since : Option ℕ → Option ℕ → Bool
has_ended_since (Some start) (Some place) = nat_lt place start
has_ended_since _ _ = true

-- ---- what is unfinished

abbrev pub next_want : Day → History → ℕ → Option ℕ → Option Want
next_want day J n None = when (may_expire day J n) (wants.Expire n)
next_want day J n (Some k) = Some (wants.Book n k)
