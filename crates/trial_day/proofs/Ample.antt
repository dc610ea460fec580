-- A day on which nothing can be wanting: it has batches of A, B and E alone, with no ends of their own, each is accepted before
-- time has passed, and the accounts that pay open with more than all moves together could take.
use Rattle.std.proofs.Common.{◌≡◌, ℕ, ◌≤◌, Bool, true, false, [], None, length}
use Rattle.std.specs.Prelude.{sum_by}
use Rattle.batch_records.specs.DayRecord.{Day}
use Rattle.batch_records.specs.declared.day.Entry.{Entry}
use Rattle.batch_records.specs.Sound.{is_sound}
use Rattle.commit_journal.specs.declared.line.Code.TheVariants as line_codes
use Rattle.commit_journal.specs.Line.{History}
use Rattle.machine.specs.Telling.History.{clock}
use Rattle.machine.specs.Stages.Intake.{intake_code, amount_of}
use Rattle.machine.specs.Records.Messages.{Sort, BatchA, BatchB, BatchE, sort_of, is_message, is_a, is_a_or_b, info_end, earliest, stated_end, entries, is_debit_entry, is_credit, debit_account}
use Rattle.machine.specs.Records.Setup.{opening, is_sub_account}
use Rattle.settlement_laws.proofs.Base.Lists.{IsIn}

-- a batch of A, B or E
abbrev pub is_drawn : Sort → Bool
is_drawn BatchA = true
is_drawn BatchB = true
is_drawn BatchE = true
is_drawn _ = false

pub record Ample (day : Day) : Type 0 where
  pub sound : is_sound day ≡ true
  pub no_stops : day.stops ≡ []
  pub no_subs : (a : ℕ) → is_sub_account day a ≡ false
  pub drawn : (n : ℕ) → is_message (sort_of day n) ≡ true → is_drawn (sort_of day n) ≡ true
  pub no_info : (n : ℕ) → info_end day n ≡ None
  pub no_early : (n : ℕ) → earliest day n ≡ None
  pub no_end : (n : ℕ) → stated_end day n ≡ None
  pub taken_well : (J : History) (n : ℕ) → is_message (sort_of day n) ≡ true → clock J ≡ 0 → intake_code day J n ≡ line_codes.Ok
  pub filled : (n : ℕ) → is_message (sort_of day n) ≡ true → 1 ≤ length (entries day n)
  pub credited : (n : ℕ) → is_a (sort_of day n) ≡ true → (k : ℕ) × (is_credit day n k ≡ true)
  pub small : (n : ℕ) (e : Entry) → IsIn e (entries day n) → e.amount ≤ 10000
  pub few : (n : ℕ) → sum_by amount_of (entries day n) ≤ 80000
  pub rich : (n : ℕ) (e : Entry) → IsIn e (entries day n) → (is_a_or_b (sort_of day n) ≡ true → is_debit_entry day n e ≡ true) → 100000000000 ≤ opening day (debit_account day e)
