-- What a day says of its own messages, a longer day says too.
use Rattle.std.proofs.Common.{◌≡◌, ◌∙◌, ℕ, zero, suc, ◌≤◌, arith, Bool, true, ◌&&◌, List, length, Option, Some, None, refl, sym, ap}
use Rattle.std.specs.Prelude.{not, nat_eq, nat_lt, is_some, filter, map, sum_by}
use Rattle.std.specs.List.{find}
use Rattle.std.proofs.lemmas.Bool.{and_from}
use Rattle.std.proofs.lemmas.Slice.Eq.{bytes_eq-Decides}
use Rattle.batch_records.specs.DayRecord.{Day}
use Rattle.batch_records.specs.declared.day.Entry.{Entry}
use Rattle.batch_records.specs.declared.day.Message.{Message}
use Rattle.machine.specs.Words.{numbers, some_passes}
use Rattle.machine.specs.Records.Messages.{Sort, sort_of, sender, round_of, message_at, message_numbers, is_named, is_batch, entries, entry_at, entry_numbers, info_end, earliest, settlement_end, settlement_start, is_high, part, transfer, is_debit, is_credit, is_debit_entry, is_paid_from_technical, debit_account, debit_entries, credit_entries, debit_numbers, credit_numbers, technical_account, fund_of, fund_account, first_of_name, is_repeat, names_batch}
use Rattle.machine.specs.Stages.Intake.{amount_of}
use Rattle.machine.specs.Stages.Pending.{debtors}
use Rattle.machine.specs.Making.Lines.{gross, debit_entries_by}
use Rattle.settlement_laws.proofs.Base.Searches.{find_any}
use Rattle.settlement_laws.proofs.Base.Sums.{any-from}
use Rattle.live_order.specs.Longer.{longer}
use Rattle.live_order.proofs.Longer.Ranges.{numbered_front, find_first}

abbrev pub first_named : Day → List ℕ → List ℕ → Option ℕ
first_named day system id = find (λ i. some_passes (is_named system id) (message_at day i)) (message_numbers day)

pub first_none : (day : Day) (n : ℕ) → message_at day n ≡ None → first_of_name day n ≡ None
first_none day n e = rw e refl

pub first_is : (day : Day) (n : ℕ) (m : Message) → message_at day n ≡ Some m → first_of_name day n ≡ first_named day m.sender m.id
first_is day n m e = rw e refl

module _ (day : Day) (ms : List Message) (ss : List ℕ) where
  pub message_same : (n : ℕ) → n ≤ length day.messages → message_at (longer day ms ss) n ≡ message_at day n
  message_same n h = numbered_front day.messages ms n h

  pub sort_same : (n : ℕ) → n ≤ length day.messages → sort_of (longer day ms ss) n ≡ sort_of day n
  sort_same n h = rw (message_same n h) refl

  pub by_sort : {X : Type 0} (f g : Sort → X) → ((s : Sort) → f s ≡ g s) → (n : ℕ) → n ≤ length day.messages → f (sort_of (longer day ms ss) n) ≡ g (sort_of day n)
  by_sort f g e n h = ap f (sort_same n h) ∙ e (sort_of day n)

  pub sender_same : (n : ℕ) → n ≤ length day.messages → sender (longer day ms ss) n ≡ sender day n
  sender_same n h = rw (message_same n h) refl

  pub round_same : (n : ℕ) → n ≤ length day.messages → round_of (longer day ms ss) n ≡ round_of day n
  round_same n h = rw (message_same n h) refl

  pub entries_same : (n : ℕ) → n ≤ length day.messages → entries (longer day ms ss) n ≡ entries day n
  entries_same n h = rw (message_same n h) refl

  pub info_end_same : (n : ℕ) → n ≤ length day.messages → info_end (longer day ms ss) n ≡ info_end day n
  info_end_same n h = rw (message_same n h) refl

  pub earliest_same : (n : ℕ) → n ≤ length day.messages → earliest (longer day ms ss) n ≡ earliest day n
  earliest_same n h = rw (message_same n h) refl

  pub end_same : (n : ℕ) → n ≤ length day.messages → settlement_end (longer day ms ss) n ≡ settlement_end day n
  end_same n h = rw (message_same n h) refl

  pub start_same : (n : ℕ) → n ≤ length day.messages → settlement_start (longer day ms ss) n ≡ settlement_start day n
  start_same n h = rw (message_same n h) refl

  pub high_same : (n : ℕ) → n ≤ length day.messages → is_high (longer day ms ss) n ≡ is_high day n
  high_same n h = rw (message_same n h) refl

  pub transfer_same : (n : ℕ) → n ≤ length day.messages → transfer (longer day ms ss) n ≡ transfer day n
  transfer_same n h = rw (message_same n h) refl

  pub entry_same : (n k : ℕ) → n ≤ length day.messages → entry_at (longer day ms ss) n k ≡ entry_at day n k
  entry_same n k h = rw (message_same n h) refl

  pub part_same : (n k : ℕ) → n ≤ length day.messages → part (longer day ms ss) n k ≡ part day n k
  part_same n zero h = transfer_same n h
  part_same n (suc k) h = entry_same n (suc k) h

  pub technical_same : (n : ℕ) → n ≤ length day.messages → technical_account (longer day ms ss) n ≡ technical_account day n
  technical_same n h = rw (message_same n h) refl

  pub fund_same : (n : ℕ) → n ≤ length day.messages → fund_of (longer day ms ss) n ≡ fund_of day n
  fund_same n h = rw (message_same n h) refl

  pub fund_account_same : (n : ℕ) → n ≤ length day.messages → fund_account (longer day ms ss) n ≡ fund_account day n
  fund_account_same n h = rw (message_same n h) refl

  pub entry_numbers_same : (n : ℕ) → n ≤ length day.messages → entry_numbers (longer day ms ss) n ≡ entry_numbers day n
  entry_numbers_same n h = ap numbers (entries_same n h)

  pub debit_entry_same : (n : ℕ) (e : Entry) → n ≤ length day.messages → is_debit_entry (longer day ms ss) n e ≡ is_debit_entry day n e
  debit_entry_same n e h = rw (message_same n h) refl

  pub paid_from_same : (n : ℕ) (e : Entry) → n ≤ length day.messages → is_paid_from_technical (longer day ms ss) n e ≡ is_paid_from_technical day n e
  paid_from_same n e h = rw (message_same n h) refl

  pub is_debit_same : (n k : ℕ) → n ≤ length day.messages → is_debit (longer day ms ss) n k ≡ is_debit day n k
  is_debit_same n k h = λ i. some_passes (λ e. debit_entry_same n e h i) (entry_same n k h i)

  pub is_credit_same : (n k : ℕ) → n ≤ length day.messages → is_credit (longer day ms ss) n k ≡ is_credit day n k
  is_credit_same n k h = λ i. some_passes (λ e. not (debit_entry_same n e h i)) (entry_same n k h i)

  pub debit_entries_same : (n : ℕ) → n ≤ length day.messages → debit_entries (longer day ms ss) n ≡ debit_entries day n
  debit_entries_same n h = λ i. filter (λ e. debit_entry_same n e h i) (entries_same n h i)

  pub credit_entries_same : (n : ℕ) → n ≤ length day.messages → credit_entries (longer day ms ss) n ≡ credit_entries day n
  credit_entries_same n h = λ i. filter (λ e. not (debit_entry_same n e h i)) (entries_same n h i)

  pub debit_numbers_same : (n : ℕ) → n ≤ length day.messages → debit_numbers (longer day ms ss) n ≡ debit_numbers day n
  debit_numbers_same n h = λ i. filter (λ k. is_debit_same n k h i) (entry_numbers_same n h i)

  pub credit_numbers_same : (n : ℕ) → n ≤ length day.messages → credit_numbers (longer day ms ss) n ≡ credit_numbers day n
  credit_numbers_same n h = λ i. filter (λ k. is_credit_same n k h i) (entry_numbers_same n h i)

  pub by_debits_same : (n : ℕ) (test : ℕ → Bool) → n ≤ length day.messages → debit_entries_by (longer day ms ss) n test ≡ debit_entries_by day n test
  by_debits_same n test h = rw (message_same n h) refl

  pub debtors_same : (n : ℕ) → n ≤ length day.messages → debtors (longer day ms ss) n ≡ debtors day n
  debtors_same n h = ap (map (debit_account day)) (debit_entries_same n h)

  pub gross_same : (n a : ℕ) → n ≤ length day.messages → gross (longer day ms ss) n a ≡ gross day n a
  gross_same n a h = ap (λ es. sum_by amount_of (filter (λ e. nat_eq (debit_account day e) a) es)) (debit_entries_same n h)

  -- ---- the first of a name: a message of the day itself is of its name, so none that stands after comes first

  is_own : (m : Message) → is_named m.sender m.id m ≡ true
  is_own m = and_from _ _ ((bytes_eq-Decides m.sender m.sender).1 refl) ((bytes_eq-Decides m.id m.id).1 refl)

  own_found : (n : ℕ) (m : Message) → n ≤ length day.messages → message_at day n ≡ Some m → is_some (first_named day m.sender m.id) ≡ true
  own_found zero m h e = cc
  own_found (suc j) m h e =
      find_any (λ i. some_passes (is_named m.sender m.id) (message_at day i)) (message_numbers day)
      ∙ any-from (λ i. some_passes (is_named m.sender m.id) (message_at day i)) 1 (length day.messages) (suc j) (omega arith) (omega arith) (ap (some_passes (is_named m.sender m.id)) e ∙ is_own m)

  first_same : (n : ℕ) (o : Option Message) → n ≤ length day.messages → message_at day n ≡ o → first_of_name (longer day ms ss) n ≡ first_of_name day n
  first_same n None h e = first_none (longer day ms ss) n (message_same n h ∙ e) ∙ sym (first_none day n e)
  first_same n (Some m) h e =
      first_is (longer day ms ss) n m (message_same n h ∙ e)
      ∙ find_first (λ i. some_passes (is_named m.sender m.id) (message_at (longer day ms ss) i)) (λ i. some_passes (is_named m.sender m.id) (message_at day i)) 1 day.messages ms
      (λ i l. ap (some_passes (is_named m.sender m.id)) (message_same i (omega arith))) (own_found n m h e)
      ∙ sym (first_is day n m e)

  pub repeat_same : (n : ℕ) → n ≤ length day.messages → is_repeat (longer day ms ss) n ≡ is_repeat day n
  repeat_same n h = ap (some_passes (λ first. nat_lt first n)) (first_same n (message_at day n) h refl)

  pub named_same : (system id : List ℕ) (n : ℕ) → n ≤ length day.messages → names_batch (longer day ms ss) system id n ≡ names_batch day system id n
  named_same system id n h = λ i. is_batch (sort_same n h i) && some_passes (is_named system id) (message_same n h i) && not (repeat_same n h i)
