-- What every complete journal of a trial comes to.
use Rattle.std.specs.Prelude.{ℕ, ◌≡◌, ◌<◌, ◌≤◌, ◌^◌, ◌||◌, true, length, is_some}
use Rattle.commit_journal.specs.Line.{History}
use Rattle.machine.specs.declared.answers.Phase.TheVariants as phases
use Rattle.machine.specs.Telling.Balances.{balance}
use Rattle.machine.specs.Orders.Bounds.{moved}
use Rattle.machine.specs.Telling.History.{is_accepted, settled_whole}
use Rattle.machine.specs.Legal.{IsLegal, is_complete}
use Rattle.machine.specs.Records.Messages.{entries}
use Rattle.machine.specs.Stages.Phases.{phase, is_booked}
use Rattle.trial_day.specs.declared.day.TheConstants.{MAX_BATCHES}
use Rattle.trial_day.specs.Trial.{generated}
use Rattle.trial_day.specs.Summary.{closing, summary, summary_of_journal, trial_lines, trial_moves}

-- Each batch is accepted and settled, each entry of it is booked by itself or with the whole batch, and the lines, the moves and
-- the balances are those of the summary, which is then the text that is made of the journal.
pub record ComesToSummary (seed batches : ℕ) (J : History) : Type 0 where
  pub accepted : (n : ℕ) → 1 ≤ n → n ≤ batches → is_accepted J n ≡ true
  pub settled : (n : ℕ) → 1 ≤ n → n ≤ batches → phase (generated seed batches) J n ≡ phases.Settled
  pub booked : (n k : ℕ) → 1 ≤ n → n ≤ batches → 1 ≤ k → k ≤ length (entries (generated seed batches) n) → (is_booked J n k || is_some (settled_whole J n)) ≡ true
  pub lines : length J ≡ trial_lines batches
  pub moves : moved J ≡ trial_moves batches
  pub balances : (a : ℕ) → 1 ≤ a → a ≤ 16 → balance (generated seed batches) J a ≡ closing (generated seed batches) a
  pub text : summary_of_journal (generated seed batches) J ≡ summary seed batches

-- whatever the order in which its lines were made
abbrev pub SummaryIsEveryJournals : Type 0
SummaryIsEveryJournals = (seed batches : ℕ) (J : History) → seed < 2 ^ 31 → 1 ≤ batches → batches ≤ MAX_BATCHES →
    IsLegal (generated seed batches) J → is_complete J ≡ true → ComesToSummary seed batches J
