-- What is left of the machine for a payment.
use Rattle.std.specs.Prelude.{ℕ, [], ◌∷◌, Option, Some, None, option_map}
use Rattle.batch_records.specs.DayRecord.{Day}
use Rattle.commit_journal.specs.declared.line.Move.{Move}
use Rattle.commit_journal.specs.Line.{History}
use Rattle.machine.specs.declared.answers.Why.{Why}
use Rattle.machine.specs.declared.answers.Why.TheVariants as whys
use Rattle.machine.specs.Words.{first_some}
use Rattle.machine.specs.Records.Messages.{move_of, transfer}
use Rattle.machine.specs.Telling.History.{booked}
use Rattle.machine.specs.Stages.Phases.{is_open, is_overdue, phase}
use Rattle.machine.specs.Stages.Pending.{item}
use Rattle.machine.specs.Making.Reasons.{other_phase, over, untaken, why_waits}

-- what a payment or a liquidity transfer moves
abbrev pub transfer_move : Day → ℕ → Option Move
transfer_move day n = option_map (move_of day) (transfer day n)

-- why an open payment of this move waits
abbrev pub why_waits_as : Day → History → ℕ → Option Move → Option Why
why_waits_as day J n None = None
why_waits_as day J n (Some m) = why_waits day J (item n 0) m.debit m.amount

-- why a payment isn't booked
unfoldable pub why_unpaid : Day → History → ℕ → Option Why
why_unpaid day J n = first_some (
    over J
    ∷ untaken J n
    ∷ other_phase day J n (is_open (phase day J n))
    ∷ option_map whys.Booked (booked J n 0)
    ∷ why_waits_as day J n (transfer_move day n)
    ∷ [])

-- why it isn't given up
unfoldable pub why_kept : Day → History → ℕ → Option Why
why_kept day J n = first_some (over J ∷ untaken J n ∷ other_phase day J n (is_overdue (phase day J n)) ∷ [])
