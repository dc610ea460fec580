-- The reasons against Ask, Cover and Refuse, with the rows that the three have alike put into one. That they are the
-- machine's is proved.
use Rattle.std.specs.Prelude.{ℕ, Bool, ◌&&◌, ◌||◌, [], ◌∷◌, Option, nat_eq, nat_lt, is_some}
use Rattle.period_calendar.specs.declared.time.TheConstants.{MIDNIGHT}
use Rattle.batch_records.specs.DayRecord.{Day}
use Rattle.commit_journal.specs.Line.{History}
use Rattle.machine.specs.declared.answers.Why.{Why}
use Rattle.machine.specs.declared.answers.Why.TheVariants as whys
use Rattle.machine.specs.Words.{first_some, unless, when}
use Rattle.machine.specs.Records.Messages.{sort_of, is_a_or_b, fund_of, fund_account}
use Rattle.machine.specs.Telling.History.{clock}
use Rattle.machine.specs.Telling.Balances.{balance}
use Rattle.machine.specs.Stages.Phases.{phase, is_overdue, is_answered, is_asking}
use Rattle.machine.specs.Making.Reasons.{over, untaken, other_phase, short}
use Rattle.machine.specs.Making.Lines.{need, fund_suffices, is_answered_yes}

-- the day is over, n is no batch of A or B, it isn't taken, or its phase is none that passes
abbrev pub not_due : Day → History → ℕ → Bool → Option Why
not_due day J n passes = first_some (
    over J
    ∷ unless (is_a_or_b (sort_of day n)) whys.NoSuch
    ∷ untaken J n
    ∷ other_phase day J n passes
    ∷ [])

unfoldable pub why_not_asked : Day → History → ℕ → Option Why
why_not_asked day J n = first_some (
    not_due day J n (is_overdue (phase day J n))
    ∷ unless (is_some (fund_of day n)) whys.NoFund
    ∷ unless (nat_lt (clock J) MIDNIGHT) (whys.Clock (clock J))
    ∷ [])

unfoldable pub why_not_paid : Day → History → ℕ → Option Why
why_not_paid day J n = first_some (
    not_due day J n (is_answered (phase day J n))
    ∷ unless (is_answered_yes day J n) whys.Answer
    ∷ unless (fund_suffices day J n) (short day J (fund_account day n))
    ∷ [])

-- the phases in which a batch can be refused
abbrev pub is_refusable : Day → History → ℕ → Bool
is_refusable day J n = is_answered (phase day J n) || is_asking (phase day J n) && nat_eq (clock J) MIDNIGHT

unfoldable pub why_not_refused : Day → History → ℕ → Option Why
why_not_refused day J n = first_some (
    not_due day J n (is_refusable day J n)
    ∷ when (is_answered_yes day J n && fund_suffices day J n) (whys.Enough (balance day J (fund_account day n)) (need day J n))
    ∷ [])
