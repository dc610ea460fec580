-- The want of item 0 of a message, by its phase and what else it is seen by.
use Rattle.std.specs.Prelude.{ℕ, Bool, false, ◌&&◌, if◌then◌else◌, Option, None, Some, nat_eq, nat_lt, unwrap_or}
use Rattle.period_calendar.specs.declared.time.TheConstants.{MIDNIGHT}
use Rattle.commit_journal.specs.declared.line.Want.{Want}
use Rattle.commit_journal.specs.declared.line.Want.TheVariants as wants
use Rattle.machine.specs.declared.answers.Phase.{Phase}
use Rattle.machine.specs.declared.answers.Phase.TheVariants as phases
use Rattle.machine.specs.Words.{when}
use Rattle.machine.specs.Records.Messages.{Sort, is_a_or_b}
use Rattle.machine.specs.Making.Lines.{may_lapse}

abbrev pub overdue_by : Sort → ℕ → Bool → ℕ → Option Want
overdue_by s n fund time = if is_a_or_b s && fund && nat_lt time MIDNIGHT then Some (wants.Ask n) else when (may_lapse s) (wants.Expire n)

abbrev pub answered_by : Sort → ℕ → Option Bool → Option Want
answered_by s n answer = when (is_a_or_b s) (if unwrap_or answer false then wants.Cover n else wants.Refuse n)

abbrev pub asking_by : Sort → ℕ → ℕ → Option Want
asking_by s n time = when (is_a_or_b s && nat_eq time MIDNIGHT) (wants.Refuse n)

-- by the sort, whether there is a fund, the clock, the answer and the phase
abbrev pub hint_by : Sort → ℕ → Bool → ℕ → Option Bool → Phase → Option Want
hint_by s n fund time answer phases.Overdue = overdue_by s n fund time
hint_by s n fund time answer phases.Answered = answered_by s n answer
hint_by s n fund time answer phases.Asking = asking_by s n time
hint_by s n fund time answer _ = None
