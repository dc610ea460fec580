-- The words of the machine for a batch of E alone. That they are the machine's is proved.
use Rattle.std.specs.Prelude.{ℕ, Bool, not, ◌&&◌, [], ◌∷◌, Option, Some, None, is_some, nat_eq, option_map}
use Rattle.batch_records.specs.DayRecord.{Day}
use Rattle.batch_records.specs.declared.day.Entry.{Entry}
use Rattle.commit_journal.specs.declared.line.Move.{Move}
use Rattle.commit_journal.specs.Line.{History}
use Rattle.machine.specs.declared.answers.Why.{Why}
use Rattle.machine.specs.declared.answers.Why.TheVariants as whys
use Rattle.machine.specs.Words.{first_some, same_account, unless}
use Rattle.machine.specs.Records.Setup.{account_named, is_dca_account}
use Rattle.machine.specs.Records.Messages.{debit_account, entry_at}
use Rattle.machine.specs.Telling.History.{booked}
use Rattle.machine.specs.Telling.Facts.{revoked}
use Rattle.machine.specs.Stages.Phases.{is_open, phase}
use Rattle.machine.specs.Stages.Pending.{item}
use Rattle.machine.specs.Making.Reasons.{other_phase, untaken, why_waits}
use Rattle.rule_book.specs.Moves.{is_dca_at}

-- ---- the intake

-- from a dedicated cash account to another one
abbrev pub is_bilateral : Day → Entry → Bool
is_bilateral day e = is_dca_account day e.debit && is_dca_account day e.credit && not (same_account (account_named day e.debit) (account_named day e.credit))

-- the same of its move
abbrev pub is_bilateral_move : Day → Move → Bool
is_bilateral_move day found = is_dca_at day found.debit && is_dca_at day found.credit && not (nat_eq found.debit found.credit)

-- ---- booking

-- what keeps a pending entry from being booked on its debit account
abbrev pub why_part_waits : Day → History → ℕ → ℕ → Option Entry → Option Why
why_part_waits day J n k None = None
why_part_waits day J n k (Some e) = why_waits day J (item n k) (debit_account day e) e.amount

-- why entry k isn't booked, besides that the End line may stand
unfoldable pub why_not_pending : Day → History → ℕ → ℕ → Option Why
why_not_pending day J n k = first_some (
    unless (is_some (entry_at day n k)) whys.NoSuch
    ∷ untaken J n
    ∷ other_phase day J n (is_open (phase day J n))
    ∷ option_map whys.Booked (booked J n k)
    ∷ option_map whys.Revoked (revoked day J n k)
    ∷ why_part_waits day J n k (entry_at day n k)
    ∷ [])
