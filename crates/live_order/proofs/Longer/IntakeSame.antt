-- The code and the moves with which a longer day takes a message of the day are the day's.
use Rattle.std.proofs.Common.{◌≡◌, ◌∙◌, ℕ, ◌≤◌, arith, Bool, true, false, List, [], ◌∷◌, length, Option, Some, None, refl, sym, ap}
use Rattle.std.specs.Prelude.{◌&&◌, ◌||◌, not, nat_eq, nat_lt, is_some, is_none, filter, sum_by}
use Rattle.std.specs.List.{list_all, list_any}
use Rattle.cash_amounts.specs.declared.records.AccountRecord.{AccountRecord}
use Rattle.cash_amounts.specs.declared.records.Procedure.TheVariants as procedures
use Rattle.batch_records.specs.declared.day.Body.{Body}
use Rattle.batch_records.specs.declared.day.Body.TheVariants as bodies
use Rattle.batch_records.specs.DayRecord.{Day}
use Rattle.batch_records.specs.declared.day.Entry.{Entry}
use Rattle.batch_records.specs.declared.day.Message.{Message}
use Rattle.commit_journal.specs.declared.line.Code.{Code}
use Rattle.commit_journal.specs.declared.line.Code.TheVariants as line_codes
use Rattle.commit_journal.specs.Line.{History}
use Rattle.machine.specs.Words.{first_case, some_passes}
use Rattle.machine.specs.Records.Setup.{account_at, is_sub_account, linked}
use Rattle.machine.specs.Records.Messages.{Sort, Pay, BatchA, BatchB, BatchC, BatchD, BatchE, Liquidity, Object, Confirm, Cycle, sort_of, sender, message_at, entries, info_end, earliest, transfer, debit_account, is_liquidity, names_batch}
use Rattle.machine.specs.Telling.History.{is_accepted, clock}
use Rattle.machine.specs.Telling.Facts.{accepted_batch, is_party}
use Rattle.machine.specs.Stages.Phases.{phase, is_asking, is_information}
use Rattle.machine.specs.Stages.Intake.{sender_is_wrong, procedure_is_unused, amount_of, count_is_wrong, sum_is_wrong, is_not_zero, sides_differ, entry_fits, info_is_wrong, earliest_is_wrong, are_crossed, periods_are_wrong, states_a_time, times_are_wrong, cycle_is_wrong_in, cycle_is_wrong, accounts_are_wrong, is_locked, debit_is_locked, debit_is_short, target_in, target_of_message, target, target_is_missing, phase_is_wrong, is_no_party, intake_code, transfer_moves, moves_as, intake_moves}
use Rattle.live_order.specs.Longer.{longer, SpeaksOf}
use Rattle.live_order.proofs.Longer.Ranges.{find_within}
use Rattle.live_order.proofs.Longer.Known.{message_same, sort_same, by_sort, sender_same, entries_same, info_end_same, earliest_same, end_same, transfer_same, repeat_same, debit_entry_same, paid_from_same}
use Rattle.live_order.proofs.Longer.FactsSame.{batch_same, open_same, phase_same}

-- tests that agree on what is there
pub passes_alike : {X : Type 0} (f g : X → Bool) (o : Option X) → ((x : X) → o ≡ Some x → f x ≡ g x) → some_passes f o ≡ some_passes g o
passes_alike f g None same = refl
passes_alike f g (Some x) same = same x refl

linked_none : (day : Day) (a : ℕ) → account_at day a ≡ None → linked day a ≡ None
linked_none day a e = rw e refl

linked_is : (day : Day) (a : ℕ) (r : AccountRecord) → account_at day a ≡ Some r → linked day a ≡ r.system
linked_is day a r e = rw e refl

module _ (day : Day) (ms : List Message) (ss : List ℕ) where
  sender_by_sort : (from : List ℕ) (s : Sort) → sender_is_wrong s (longer day ms ss) from ≡ sender_is_wrong s day from
  sender_by_sort from Pay = refl
  sender_by_sort from Liquidity = refl
  sender_by_sort from Object = refl
  sender_by_sort from _ = refl

  unused_by_sort : (from : List ℕ) (s : Sort) → procedure_is_unused s (longer day ms ss) from ≡ procedure_is_unused s day from
  unused_by_sort from BatchA = refl
  unused_by_sort from BatchB = refl
  unused_by_sort from BatchC = refl
  unused_by_sort from BatchD = refl
  unused_by_sort from BatchE = refl
  unused_by_sort from Cycle = refl
  unused_by_sort from _ = refl

  count_same : (n : ℕ) → n ≤ length day.messages → count_is_wrong (longer day ms ss) n ≡ count_is_wrong day n
  count_same n h = rw (message_same day ms ss n h) refl

  sum_same : (n : ℕ) → n ≤ length day.messages → sum_is_wrong (longer day ms ss) n ≡ sum_is_wrong day n
  sum_same n h = rw (message_same day ms ss n h) refl

  sides_same : (n : ℕ) → n ≤ length day.messages → sides_differ (longer day ms ss) n ≡ sides_differ day n
  sides_same n h = λ i. not (nat_eq
      (sum_by amount_of (filter (λ e. debit_entry_same day ms ss n e h i) (entries_same day ms ss n h i)))
      (sum_by amount_of (filter (λ e. paid_from_same day ms ss n e h i) (entries_same day ms ss n h i))))

  zero_by_sort : (n : ℕ) → n ≤ length day.messages → (s : Sort) → is_not_zero s (longer day ms ss) n ≡ is_not_zero s day n
  zero_by_sort n h BatchA = sides_same n h
  zero_by_sort n h BatchB = sides_same n h
  zero_by_sort n h _ = refl

  fits_by_sort : (n : ℕ) → n ≤ length day.messages → (e : Entry) (s : Sort) → entry_fits s (longer day ms ss) n e ≡ entry_fits s day n e
  fits_by_sort n h e BatchA = rw (message_same day ms ss n h) refl
  fits_by_sort n h e BatchB = rw (message_same day ms ss n h) refl
  fits_by_sort n h e BatchC = rw (message_same day ms ss n h) refl
  fits_by_sort n h e BatchD = rw (message_same day ms ss n h) refl
  fits_by_sort n h e BatchE = refl
  fits_by_sort n h e _ = refl

  -- ---- times

  info_by_end : (J : History) (n : ℕ) → n ≤ length day.messages → (o : Option ℕ) → info_is_wrong (longer day ms ss) J n o ≡ info_is_wrong day J n o
  info_by_end J n h None = refl
  info_by_end J n h (Some info) = ap (λ t. not (nat_lt (clock J) info && nat_lt info t)) (end_same day ms ss n h)

  earliest_by_end : (J : History) (n : ℕ) → n ≤ length day.messages → (o : Option ℕ) → earliest_is_wrong (longer day ms ss) J n o ≡ earliest_is_wrong day J n o
  earliest_by_end J n h None = refl
  earliest_by_end J n h (Some from) = ap (λ t. not (nat_lt (clock J) from && nat_lt from t)) (end_same day ms ss n h)

  periods_same : (J : History) (n : ℕ) → n ≤ length day.messages → periods_are_wrong (longer day ms ss) J n ≡ periods_are_wrong day J n
  periods_same J n h =
      let f : info_is_wrong (longer day ms ss) J n (info_end (longer day ms ss) n) ≡ info_is_wrong day J n (info_end day n) =
      ap (info_is_wrong (longer day ms ss) J n) (info_end_same day ms ss n h) ∙ info_by_end J n h (info_end day n) in
      let g : earliest_is_wrong (longer day ms ss) J n (earliest (longer day ms ss) n) ≡ earliest_is_wrong day J n (earliest day n) =
      ap (earliest_is_wrong (longer day ms ss) J n) (earliest_same day ms ss n h) ∙ earliest_by_end J n h (earliest day n) in
      λ i.
      not (nat_lt (clock J) (end_same day ms ss n h i))
      || f i
      || g i
      || are_crossed (info_end_same day ms ss n h i) (earliest_same day ms ss n h i)

  states_same : (n : ℕ) → n ≤ length day.messages → states_a_time (longer day ms ss) n ≡ states_a_time day n
  states_same n h = rw (message_same day ms ss n h) refl

  times_by_sort : (J : History) (n : ℕ) → n ≤ length day.messages → (s : Sort) → times_are_wrong s (longer day ms ss) J n ≡ times_are_wrong s day J n
  times_by_sort J n h BatchA = periods_same J n h
  times_by_sort J n h BatchB = periods_same J n h
  times_by_sort J n h BatchE = periods_same J n h
  times_by_sort J n h BatchC = states_same n h
  times_by_sort J n h BatchD = states_same n h
  times_by_sort J n h _ = refl

  -- ---- cycles

  cycle_in_body : (J : History) → SpeaksOf (length day.messages) J → (from : List ℕ) (b : Body) → cycle_is_wrong_in (longer day ms ss) J from b ≡ cycle_is_wrong_in day J from b
  cycle_in_body J k from (bodies.Batch procedures.A info early till count sum entries) = refl
  cycle_in_body J k from (bodies.Batch procedures.B info early till count sum entries) = refl
  cycle_in_body J k from (bodies.Batch procedures.C info early till count sum entries) = ap is_none (open_same day ms ss from J k)
  cycle_in_body J k from (bodies.Batch procedures.D info early till count sum entries) = refl
  cycle_in_body J k from (bodies.Batch procedures.E info early till count sum entries) = refl
  cycle_in_body J k from (bodies.Cycle true) = ap is_some (open_same day ms ss from J k)
  cycle_in_body J k from (bodies.Cycle false) = ap is_none (open_same day ms ss from J k)
  cycle_in_body J k from _ = refl

  cycle_same : (J : History) → SpeaksOf (length day.messages) J → (n : ℕ) → n ≤ length day.messages → cycle_is_wrong (longer day ms ss) J n ≡ cycle_is_wrong day J n
  cycle_same J k n h =
      ap (some_passes (λ m. cycle_is_wrong_in (longer day ms ss) J m.sender m.body)) (message_same day ms ss n h)
      ∙ passes_alike (λ m. cycle_is_wrong_in (longer day ms ss) J m.sender m.body) (λ m. cycle_is_wrong_in day J m.sender m.body) (message_at day n) (λ m e. cycle_in_body J k m.sender m.body)

  -- ---- accounts

  accounts_by_sort : (n : ℕ) → n ≤ length day.messages → (s : Sort) → accounts_are_wrong s (longer day ms ss) n ≡ accounts_are_wrong s day n
  accounts_by_sort n h Pay = rw (message_same day ms ss n h) refl
  accounts_by_sort n h Liquidity = rw (message_same day ms ss n h) refl
  accounts_by_sort n h _ = refl

  linked_by : (a : ℕ) (o : Option AccountRecord) → account_at day a ≡ o → linked (longer day ms ss) a ≡ linked day a
  linked_by a None e = linked_none (longer day ms ss) a e ∙ sym (linked_none day a e)
  linked_by a (Some r) e = linked_is (longer day ms ss) a r e ∙ sym (linked_is day a r e)

  pub locked_same : (J : History) → SpeaksOf (length day.messages) J → (a : ℕ) → is_locked (longer day ms ss) J a ≡ is_locked day J a
  locked_same J k a = λ i. is_sub_account day a && some_passes (λ system. is_some (open_same day ms ss system J k i)) (linked_by a (account_at day a) refl i)

  debit_locked_same : (J : History) → SpeaksOf (length day.messages) J → (n : ℕ) → n ≤ length day.messages → debit_is_locked (longer day ms ss) J n ≡ debit_is_locked day J n
  debit_locked_same J k n h = λ i. is_liquidity (sort_same day ms ss n h i) && some_passes (λ e. locked_same J k (debit_account day e) i) (transfer_same day ms ss n h i)

  debit_short_same : (J : History) (n : ℕ) → n ≤ length day.messages → debit_is_short (longer day ms ss) J n ≡ debit_is_short day J n
  debit_short_same J n h = rw (message_same day ms ss n h) refl

  -- ---- the batch that is named

  target_in_body : (J : History) → SpeaksOf (length day.messages) J → (from : List ℕ) (b : Body) → target_in (longer day ms ss) J from b ≡ target_in day J from b
  target_in_body J k from (bodies.Object system id) = batch_same day ms ss J k system id
  target_in_body J k from (bodies.Confirm id answer) = batch_same day ms ss J k from id
  target_in_body J k from _ = refl

  target_of_same : (J : History) → SpeaksOf (length day.messages) J → (o : Option Message) → target_of_message (longer day ms ss) J o ≡ target_of_message day J o
  target_of_same J k None = refl
  target_of_same J k (Some m) = target_in_body J k m.sender m.body

  pub target_same : (J : History) → SpeaksOf (length day.messages) J → (n : ℕ) → n ≤ length day.messages → target (longer day ms ss) J n ≡ target day J n
  target_same J k n h = ap (target_of_message (longer day ms ss) J) (message_same day ms ss n h) ∙ target_of_same J k (message_at day n)

  missing_by_sort : (J : History) → SpeaksOf (length day.messages) J → (n : ℕ) → n ≤ length day.messages → (s : Sort) → target_is_missing s (longer day ms ss) J n ≡ target_is_missing s day J n
  missing_by_sort J k n h Object = ap is_none (target_same J k n h)
  missing_by_sort J k n h Confirm = ap is_none (target_same J k n h)
  missing_by_sort J k n h _ = refl

  -- it is a message of the day
  batch_within : (J : History) (system id : List ℕ) (b : ℕ) → accepted_batch day J system id ≡ Some b → b ≤ length day.messages
  batch_within J system id b e = let l = find_within (λ n. names_batch day system id n && is_accepted J n) 1 day.messages b e in omega (arith, l)

  target_in_within : (J : History) (from : List ℕ) (body : Body) (b : ℕ) → target_in day J from body ≡ Some b → b ≤ length day.messages
  target_in_within J from (bodies.Object system id) b e = batch_within J system id b e
  target_in_within J from (bodies.Confirm id answer) b e = batch_within J from id b e
  target_in_within J from _ b e = cc

  target_within : (J : History) (o : Option Message) (b : ℕ) → target_of_message day J o ≡ Some b → b ≤ length day.messages
  target_within J None b e = cc
  target_within J (Some m) b e = target_in_within J m.sender m.body b e

  wrong_phase_by_sort : (J : History) → SpeaksOf (length day.messages) J → (n : ℕ) → n ≤ length day.messages → (s : Sort) → phase_is_wrong s (longer day ms ss) J n ≡ phase_is_wrong s day J n
  wrong_phase_by_sort J k n h Object =
      ap (some_passes (λ b. not (is_information (phase (longer day ms ss) J b)))) (target_same J k n h)
      ∙ passes_alike (λ b. not (is_information (phase (longer day ms ss) J b))) (λ b. not (is_information (phase day J b))) (target day J n)
      (λ b e. ap (λ p. not (is_information p)) (phase_same day ms ss J k b (target_within J (message_at day n) b e)))
  wrong_phase_by_sort J k n h Confirm =
      ap (some_passes (λ b. not (is_asking (phase (longer day ms ss) J b)))) (target_same J k n h)
      ∙ passes_alike (λ b. not (is_asking (phase (longer day ms ss) J b))) (λ b. not (is_asking (phase day J b))) (target day J n)
      (λ b e. ap (λ p. not (is_asking p)) (phase_same day ms ss J k b (target_within J (message_at day n) b e)))
  wrong_phase_by_sort J k n h _ = refl

  party_by_sort : (J : History) → SpeaksOf (length day.messages) J → (n : ℕ) → n ≤ length day.messages → (s : Sort) → is_no_party s (longer day ms ss) J n ≡ is_no_party s day J n
  party_by_sort J k n h Object =
      ap (some_passes (λ b. not (list_any (is_party day (sender (longer day ms ss) n)) (entries (longer day ms ss) b)))) (target_same J k n h)
      ∙ passes_alike (λ b. not (list_any (is_party day (sender (longer day ms ss) n)) (entries (longer day ms ss) b))) (λ b. not (list_any (is_party day (sender day n)) (entries day b))) (target day J n)
      (λ b e. λ i. not (list_any (is_party day (sender_same day ms ss n h i)) (entries_same day ms ss b (target_within J (message_at day n) b e) i)))
  party_by_sort J k n h _ = refl

  -- ---- the table

  pub code_same : (J : History) → SpeaksOf (length day.messages) J → (n : ℕ) → n ≤ length day.messages → intake_code (longer day ms ss) J n ≡ intake_code day J n
  unfolding intake_code
  code_same J k n h =
      let us : sender_is_wrong (sort_of (longer day ms ss) n) (longer day ms ss) (sender (longer day ms ss) n) ≡ sender_is_wrong (sort_of day n) day (sender day n) =
      by_sort day ms ss (λ s. sender_is_wrong s (longer day ms ss) (sender (longer day ms ss) n)) (λ s. sender_is_wrong s day (sender day n))
      (λ s. ap (sender_is_wrong s (longer day ms ss)) (sender_same day ms ss n h) ∙ sender_by_sort (sender day n) s) n h in
      let pr : procedure_is_unused (sort_of (longer day ms ss) n) (longer day ms ss) (sender (longer day ms ss) n) ≡ procedure_is_unused (sort_of day n) day (sender day n) =
      by_sort day ms ss (λ s. procedure_is_unused s (longer day ms ss) (sender (longer day ms ss) n)) (λ s. procedure_is_unused s day (sender day n))
      (λ s. ap (procedure_is_unused s (longer day ms ss)) (sender_same day ms ss n h) ∙ unused_by_sort (sender day n) s) n h in
      let nz : is_not_zero (sort_of (longer day ms ss) n) (longer day ms ss) n ≡ is_not_zero (sort_of day n) day n =
      by_sort day ms ss (λ s. is_not_zero s (longer day ms ss) n) (λ s. is_not_zero s day n) (zero_by_sort n h) n h in
      let en : (e : Entry) → entry_fits (sort_of (longer day ms ss) n) (longer day ms ss) n e ≡ entry_fits (sort_of day n) day n e =
      λ e. by_sort day ms ss (λ s. entry_fits s (longer day ms ss) n e) (λ s. entry_fits s day n e) (fits_by_sort n h e) n h in
      let ti : times_are_wrong (sort_of (longer day ms ss) n) (longer day ms ss) J n ≡ times_are_wrong (sort_of day n) day J n =
      by_sort day ms ss (λ s. times_are_wrong s (longer day ms ss) J n) (λ s. times_are_wrong s day J n) (times_by_sort J n h) n h in
      let ac : accounts_are_wrong (sort_of (longer day ms ss) n) (longer day ms ss) n ≡ accounts_are_wrong (sort_of day n) day n =
      by_sort day ms ss (λ s. accounts_are_wrong s (longer day ms ss) n) (λ s. accounts_are_wrong s day n) (accounts_by_sort n h) n h in
      let bt : target_is_missing (sort_of (longer day ms ss) n) (longer day ms ss) J n ≡ target_is_missing (sort_of day n) day J n =
      by_sort day ms ss (λ s. target_is_missing s (longer day ms ss) J n) (λ s. target_is_missing s day J n) (missing_by_sort J k n h) n h in
      let ph : phase_is_wrong (sort_of (longer day ms ss) n) (longer day ms ss) J n ≡ phase_is_wrong (sort_of day n) day J n =
      by_sort day ms ss (λ s. phase_is_wrong s (longer day ms ss) J n) (λ s. phase_is_wrong s day J n) (wrong_phase_by_sort J k n h) n h in
      let np : is_no_party (sort_of (longer day ms ss) n) (longer day ms ss) J n ≡ is_no_party (sort_of day n) day J n =
      by_sort day ms ss (λ s. is_no_party s (longer day ms ss) J n) (λ s. is_no_party s day J n) (party_by_sort J k n h) n h in
      λ i. first_case (
      (repeat_same day ms ss n h i, line_codes.Du)
      ∷ (us i, line_codes.Us)
      ∷ (pr i, line_codes.Pr)
      ∷ (count_same n h i, line_codes.Ct)
      ∷ (sum_same n h i, line_codes.Sm)
      ∷ (nz i, line_codes.Nz)
      ∷ (not (list_all (λ e. en e i) (entries_same day ms ss n h i)), line_codes.En)
      ∷ (ti i, line_codes.Ti)
      ∷ (cycle_same J k n h i, line_codes.Cy)
      ∷ (ac i, line_codes.Ac)
      ∷ (debit_locked_same J k n h i, line_codes.Lk)
      ∷ (debit_short_same J n h i, line_codes.Nc)
      ∷ (bt i, line_codes.Bt)
      ∷ (ph i, line_codes.Ph)
      ∷ (np i, line_codes.Np)
      ∷ []) line_codes.Ok

  transfer_moves_same : (o : Option Entry) → transfer_moves (longer day ms ss) o ≡ transfer_moves day o
  transfer_moves_same None = refl
  transfer_moves_same (Some e) = refl

  moves_by_sort : (J : History) (n : ℕ) → n ≤ length day.messages → (s : Sort) → moves_as s (longer day ms ss) J n ≡ moves_as s day J n
  moves_by_sort J n h Liquidity = ap (transfer_moves (longer day ms ss)) (transfer_same day ms ss n h) ∙ transfer_moves_same (transfer day n)
  moves_by_sort J n h BatchD = rw (message_same day ms ss n h) refl
  moves_by_sort J n h _ = refl

  pub intake_moves_same : (J : History) (n : ℕ) → n ≤ length day.messages → (code : Code) → intake_moves (longer day ms ss) J n code ≡ intake_moves day J n code
  intake_moves_same J n h line_codes.Ok = by_sort day ms ss (λ s. moves_as s (longer day ms ss) J n) (λ s. moves_as s day J n) (moves_by_sort J n h) n h
  intake_moves_same J n h _ = refl
