-- What is the same of a message before a line that doesn't concern it and after it. Only of an accepted one it matters where its items stand.
use Rattle.std.specs.Prelude.{◌≡◌, ℕ, true, ◌&&◌, nat_eq}
use Rattle.period_calendar.specs.declared.time.TheConstants.{MIDNIGHT}
use Rattle.batch_records.specs.DayRecord.{Day}
use Rattle.commit_journal.specs.Line.{History}
use Rattle.machine.specs.Records.Messages.{sort_of, is_a_or_b, settlement_start}
use Rattle.machine.specs.Telling.History.{clock, is_accepted}
use Rattle.machine.specs.Stages.Phases.{phase}
use Rattle.machine.specs.Stages.Pending.{item, is_pending, standing, opened_at, first_unbooked_debit, last_debit_booked}
use Rattle.scan_laws.specs.Concerns.{SameFacts}

pub record IsUnchanged (day : Day) (K J : History) (n : ℕ) : Type 0 where
  pub same_facts : SameFacts day K J n
  pub same_phase : phase day K n ≡ phase day J n
  pub same_midnight : is_accepted J n ≡ true → (is_a_or_b (sort_of day n) && nat_eq (clock K) MIDNIGHT) ≡ (is_a_or_b (sort_of day n) && nat_eq (clock J) MIDNIGHT)
  pub same_unbooked : first_unbooked_debit day K n ≡ first_unbooked_debit day J n
  pub same_last : last_debit_booked day K n ≡ last_debit_booked day J n
  pub same_opened : is_accepted J n ≡ true → opened_at day K n (settlement_start day n) ≡ opened_at day J n (settlement_start day n)
  pub same_pending : (k : ℕ) → is_pending day K (item n k) ≡ is_pending day J (item n k)
  pub same_standing : is_accepted J n ≡ true → (k : ℕ) → standing day K (item n k) ≡ standing day J (item n k)
