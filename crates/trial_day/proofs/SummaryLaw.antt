-- The summary of a trial is that of each of its complete journals.
use Rattle.std.proofs.Common.{◌≡◌, ℕ, zero, suc, ◌+◌, ◌-◌, ◌%◌, ◌≤◌, ◌<◌, ◌^◌, Bool, true, false, ◌||◌, List, [], ◌∷◌, ◌++◌, Option, Some, None, refl, sym, ap, ◌∙◌, subst, arith, length, ◌⊎◌, inl, inr}
use Rattle.std.specs.Prelude.{is_some, nat_eq, if◌then◌else◌, flat_map, sum_by, unwrap_or}
use Rattle.std.specs.List.{position_from, range_with_len}
use Rattle.std.specs.Option.{option_map_or}
use Rattle.std.proofs.lemmas.Bool.{eq-eqb, eqb-true, false_from_ne_true, or_left, or_right}
use Rattle.std.proofs.lemmas.List.Sums.{sum_by-cons}
use Rattle.std.proofs.lemmas.Slice.Eq.{bytes_eq-Decides}
use Rattle.cash_amounts.specs.declared.records.AccountRecord.{AccountRecord}
use Rattle.cash_amounts.specs.declared.records.Procedure.{Procedure}
use Rattle.cash_amounts.specs.declared.records.Procedure.TheVariants.{A, B, E}
use Rattle.cash_amounts.specs.Numbers.{numbered}
use Rattle.cash_amounts.specs.Tests.{same_name}
use Rattle.batch_records.specs.DayRecord.{Day}
use Rattle.batch_records.specs.declared.day.Message.{Message}
use Rattle.batch_records.specs.declared.day.Entry.{Entry}
use Rattle.batch_records.specs.Sound.{entries_in}
use Rattle.commit_journal.specs.Line.{Line, History}
use Rattle.machine.specs.Telling.Balances.{credits, debits, credited, debited, balance}
use Rattle.machine.specs.Orders.Bounds.{moved}
use Rattle.machine.specs.Telling.History.{is_accepted, settled_whole, is_all_of}
use Rattle.machine.specs.Stages.Intake.{entry_fits}
use Rattle.machine.specs.Legal.{IsLegal, is_complete}
use Rattle.machine.specs.Making.Lines.{end_line}
use Rattle.machine.specs.Records.Messages.{Sort, Missing, BatchA, BatchB, BatchE, sort_of, sort_of_body, sort_of_batch, is_message, is_b, is_batch, entries, credit_account, debit_account}
use Rattle.machine.specs.Orders.Order.{plain}
use Rattle.machine.specs.Stages.Phases.{is_booked}
use Rattle.machine.specs.Records.Setup.{account_named}
use Rattle.settlement_laws.proofs.DayEnd.EndChangesNothing.{phase_end, booked_end}
use Rattle.settlement_laws.proofs.Base.Lists.{IsIn, all_in}
use Rattle.settlement_laws.proofs.Base.LinesOf.{accepted_stays, stays}
use Rattle.settlement_laws.proofs.Base.Numbers.{FoundAt, position_found}
use Rattle.settlement_laws.proofs.DayEnd.Progress.{message_at-in}
use Rattle.settlement_laws.proofs.Balances.MovesOfTheDay.{accepted_fits, fits_named}
use Rattle.settlement_laws.proofs.DayEnd.PlainRuns.{plain_ends}
use Rattle.settlement_laws.proofs.Base.Sums.{sum_from}
use Rattle.trial_day.specs.Trial.{dca_name, trios, drawn_entries, procedure_of_message, system_of_message, trial_message, trial_accounts, generated}
use Rattle.trial_day.specs.Summary.{lines_by, moves_by, trial_lines, trial_moves, all_entries, received, paid, closing, head_text, holding_text, holdings_text, summary, summary_of_journal}
use Rattle.trial_day.specs.TrialLaws.{ComesToSummary, SummaryIsEveryJournals}
use Rattle.trial_day.proofs.Ample.{Ample, is_drawn}
use Rattle.trial_day.proofs.Morning.{taken_accepted}
use Rattle.trial_day.proofs.Shape.{Worked, time_at, settled_over, booked_over, complete_shape}
use Rattle.trial_day.proofs.Totals.{of_message, one, sum_alike, sum_both, work_total, there, is_whole, all_booked}
use Rattle.trial_day.proofs.Summing.{sum_range, ones_from, over_messages, lines_sum, moves_sum, credits_sum, debits_sum, message_moves, message_credits, message_debits, message_lines}
use Rattle.trial_day.proofs.TrialSetup.{dca_facts}
use Rattle.trial_day.proofs.TrialMessages.{accounts_are, systems_are, message_there, message_count, drawn_procedure}
use Rattle.trial_day.proofs.TrialAmple.{dca_named, dca_opens}
use Rattle.trial_day.proofs.TrialSound.{generated_is_sound}
use Rattle.trial_day.proofs.TrialIsAmple.{ample}

-- ---- a message by its procedure

entries_by : (p : Procedure) (s seed n : ℕ) → (p ≡ A) ⊎ ((p ≡ B) ⊎ (p ≡ E)) → length (drawn_entries p s (trios seed n)) ≡ moves_by p
unfolding drawn_entries
entries_by p s seed n (inl e) = subst (λ q. length (drawn_entries q s (trios seed n)) ≡ moves_by q) (sym e) refl
entries_by p s seed n (inr (inl e)) = subst (λ q. length (drawn_entries q s (trios seed n)) ≡ moves_by q) (sym e) refl
entries_by p s seed n (inr (inr e)) = subst (λ q. length (drawn_entries q s (trios seed n)) ≡ moves_by q) (sym e) refl

lines_are : (p : Procedure) (m : ℕ) → (p ≡ A) ⊎ ((p ≡ B) ⊎ (p ≡ E)) → m ≡ moves_by p → (if is_b (sort_of_batch p) then 1 else m) ≡ lines_by p
lines_are p m (inl e) h = subst (λ q. m ≡ moves_by q → (if is_b (sort_of_batch q) then 1 else m) ≡ lines_by q) (sym e) (λ k. k) h
lines_are p m (inr (inl e)) h = subst (λ q. m ≡ moves_by q → (if is_b (sort_of_batch q) then 1 else m) ≡ lines_by q) (sym e) (λ k. refl) h
lines_are p m (inr (inr e)) h = subst (λ q. m ≡ moves_by q → (if is_b (sort_of_batch q) then 1 else m) ≡ lines_by q) (sym e) (λ k. k) h

sum_members : (f g : Entry → ℕ) (es : List Entry) → ((e : Entry) → IsIn e es → f e ≡ g e) → sum_by f es ≡ sum_by g es
sum_members f g [] h = refl
sum_members f g (e ∷ es) h = sum_by-cons f e es ∙ (λ i. h e (inl refl) i + sum_members f g es (λ x j. h x (inr j)) i) ∙ sym (sum_by-cons g e es)

holdings_alike : (f g : ℕ → ℕ) → ((a : ℕ) → 1 ≤ a → a < 17 → f a ≡ g a) → holdings_text f ≡ holdings_text g
unfolding holdings_text
holdings_alike f g h = over 1 16 (omega arith) (omega arith)
  where
    over : (s n : ℕ) → 1 ≤ s → s + n ≤ 17 → flat_map (λ a. holding_text a (f a)) (range_with_len s n) ≡ flat_map (λ a. holding_text a (g a)) (range_with_len s n)
    over s zero low high = refl
    over s (suc n) low high = λ i. holding_text s (h s low (omega (arith, high)) i) ++ over (s + 1) n (omega arith) (omega (arith, high)) i

module _ (seed batches : ℕ) (small : batches ≤ 10000) where
  sort_by : (n : ℕ) → 1 ≤ n → n < 1 + batches → sort_of (generated seed batches) n ≡ sort_of_batch (procedure_of_message n)
  unfolding trial_message
  sort_by n low high = ap (λ (o : Option Message). option_map_or (λ m. sort_of_body m.body) o Missing) (message_there seed batches n low high)

  count_by_procedure : (n : ℕ) → 1 ≤ n → n < 1 + batches → length (entries (generated seed batches) n) ≡ moves_by (procedure_of_message n)
  unfolding trial_message
  count_by_procedure n low high =
      ap (λ (o : Option Message). length (option_map_or (λ m. entries_in m.body) o [])) (message_there seed batches n low high)
      ∙ entries_by (procedure_of_message n) (system_of_message n) seed n (drawn_procedure (n % 3))

  is_there : (n : ℕ) → 1 ≤ n → n < 1 + batches → is_message (sort_of (generated seed batches) n) ≡ true
  is_there n low high = (message_at-in (generated seed batches) n low (omega (arith, high, message_count seed batches))).1

  -- a name of an account is that of a cash account exactly where the numbers are the same
  name_is_number : (x : List ℕ) → is_some (account_named (generated seed batches) x) ≡ true → (a : ℕ) → 1 ≤ a → a < 17 → nat_eq (unwrap_or (account_named (generated seed batches) x) 0) a ≡ same_name x (dca_name a)
  name_is_number x h a low high = here (account_named (generated seed batches) x) refl h (same_name x (dca_name a)) refl
    where
      found : (y : ℕ) → account_named (generated seed batches) x ≡ Some y → option_map_or (λ (r : AccountRecord). r.name) (numbered trial_accounts y) [] ≡ x
      found y e =
          let f : FoundAt (λ (r : AccountRecord). same_name r.name x) 1 trial_accounts y = position_found (λ (r : AccountRecord). same_name r.name x) 1 trial_accounts y (ap (λ rs. position_from (λ (r : AccountRecord). same_name r.name x) 1 rs) (sym (accounts_are seed batches)) ∙ e) in
          let q : y ≡ suc f.place = omega (arith, f.number) in
          ap (λ j. option_map_or (λ (r : AccountRecord). r.name) (numbered trial_accounts j) []) q ∙ ap (λ (o : Option AccountRecord). option_map_or (λ r. r.name) o []) f.is_there ∙ (bytes_eq-Decides f.found.name x).0 f.passes

      is : (y z : ℕ) → Some y ≡ Some z → y ≡ z
      is y z e = cc

      here : (o : Option ℕ) → account_named (generated seed batches) x ≡ o → is_some o ≡ true → (b : Bool) → same_name x (dca_name a) ≡ b → nat_eq (unwrap_or o 0) a ≡ b
      here None e h b q = cc
      here (Some y) e h true q =
          let same : x ≡ dca_name a = (bytes_eq-Decides x (dca_name a)).0 q in
          eq-eqb y a (is y a (sym e ∙ ap (account_named (generated seed batches)) same ∙ dca_named (generated seed batches) (accounts_are seed batches) (systems_are seed batches) a low high))
      here (Some y) e h false q = false_from_ne_true (nat_eq y a) (λ t.
          let same : y ≡ a = eqb-true y a t in
          let name : x ≡ dca_name a = sym (found y e) ∙ ap (λ j. option_map_or (λ (r : AccountRecord). r.name) (numbered trial_accounts j) []) same ∙ (dca_facts a low high).is_called in
          no (sym q ∙ (bytes_eq-Decides x (dca_name a)).1 name))
        where
          no : false ≡ true → ⊥
          no z = cc

  module _ (K : History) (worked : Worked (generated seed batches) K) where
    is_ample : Ample (generated seed batches)
    is_ample = ample seed batches small

    accepted_here : (n : ℕ) → 1 ≤ n → n < 1 + batches → is_accepted K n ≡ true
    accepted_here n low high = taken_accepted (generated seed batches) K n worked.morning.works (there (generated seed batches) is_ample K worked n (is_there n low high))

    named_here : (n : ℕ) → 1 ≤ n → n < 1 + batches → (e : Entry) → IsIn e (entries (generated seed batches) n) → (is_some (account_named (generated seed batches) e.debit) ≡ true) × (is_some (account_named (generated seed batches) e.credit) ≡ true)
    named_here n low high e i =
        fits_named (sort_of (generated seed batches) n) (generated seed batches) n e (drawn_is_batch (sort_of (generated seed batches) n) (is_ample.drawn n (is_there n low high)))
        (all_in (entry_fits (sort_of (generated seed batches) n) (generated seed batches) n) (entries (generated seed batches) n) e (accepted_fits (generated seed batches) K n worked.legal (accepted_here n low high)) i)
      where
        drawn_is_batch : (s : Sort) → is_drawn s ≡ true → is_batch s ≡ true
        drawn_is_batch BatchA h = refl
        drawn_is_batch BatchB h = refl
        drawn_is_batch BatchE h = refl
        drawn_is_batch _ h = cc

    -- ---- the totals of the journal

    total : (f : Line → ℕ) → sum_by f (end_line ∷ time_at 86400 ∷ K) ≡ f end_line + (f (time_at 86400) + sum_from (of_message (generated seed batches) f) 1 batches)
    total f =
        sum_by-cons f end_line (time_at 86400 ∷ K) ∙ ap (λ n. f end_line + n) (sum_by-cons f (time_at 86400) K)
        ∙ ap (λ n. f end_line + (f (time_at 86400) + n)) (work_total (generated seed batches) is_ample K worked f ∙ ap (sum_from (of_message (generated seed batches) f) 1) (message_count seed batches))

    total_lines : length (end_line ∷ time_at 86400 ∷ K) ≡ trial_lines batches
    total_lines =
        let a : length (end_line ∷ time_at 86400 ∷ K) ≡ 1 + (1 + sum_from (of_message (generated seed batches) (λ l. 1)) 1 batches) = lines_sum (end_line ∷ time_at 86400 ∷ K) ∙ total (λ l. 1) in
        let b : sum_from (of_message (generated seed batches) (λ l. 1)) 1 batches ≡ sum_from (λ n. 1 + lines_by (procedure_of_message n)) 1 batches = sum_alike _ _ 1 batches (λ n low high. message_lines (generated seed batches) n ∙ ap (λ x. 1 + x) ((λ i. if is_b (sort_by n low high i) then 1 else length (entries (generated seed batches) n)) ∙ lines_are (procedure_of_message n) (length (entries (generated seed batches) n)) (drawn_procedure (n % 3)) (count_by_procedure n low high))) in
        let c : sum_from (λ n. 1 + lines_by (procedure_of_message n)) 1 batches ≡ sum_from (λ n. 1) 1 batches + sum_from (λ n. lines_by (procedure_of_message n)) 1 batches = sum_both (λ n. 1) (λ n. lines_by (procedure_of_message n)) 1 batches in
        let d : sum_from (λ n. 1) 1 batches ≡ batches = ones_from 1 batches in
        let e : sum_from (λ n. lines_by (procedure_of_message n)) 1 batches ≡ sum_by (λ n. lines_by (procedure_of_message n)) (range_with_len 1 batches) = sum_range (λ n. lines_by (procedure_of_message n)) 1 batches in
        omega arith

    total_moves : moved (end_line ∷ time_at 86400 ∷ K) ≡ trial_moves batches
    total_moves =
        let a : moved (end_line ∷ time_at 86400 ∷ K) ≡ 0 + (0 + sum_from (of_message (generated seed batches) (λ l. length l.moves)) 1 batches) = moves_sum (end_line ∷ time_at 86400 ∷ K) ∙ total (λ l. length l.moves) in
        let b : sum_from (of_message (generated seed batches) (λ l. length l.moves)) 1 batches ≡ sum_from (λ n. moves_by (procedure_of_message n)) 1 batches = sum_alike _ _ 1 batches (λ n low high. message_moves (generated seed batches) n ∙ count_by_procedure n low high) in
        let c : sum_from (λ n. moves_by (procedure_of_message n)) 1 batches ≡ sum_by (λ n. moves_by (procedure_of_message n)) (range_with_len 1 batches) = sum_range (λ n. moves_by (procedure_of_message n)) 1 batches in
        omega arith

    in_all : (f : Entry → ℕ) → sum_from (λ n. sum_by f (entries (generated seed batches) n)) 1 batches ≡ sum_by f (all_entries (generated seed batches))
    in_all f = ap (sum_from (λ n. sum_by f (entries (generated seed batches) n)) 1) (sym (message_count seed batches)) ∙ over_messages (generated seed batches) f

    total_credits : (a : ℕ) → 1 ≤ a → a < 17 → credited (end_line ∷ time_at 86400 ∷ K) a ≡ received (dca_name a) (all_entries (generated seed batches))
    total_credits a low high =
        let x : credited (end_line ∷ time_at 86400 ∷ K) a ≡ 0 + (0 + sum_from (of_message (generated seed batches) (λ l. credits a l.moves)) 1 batches) = credits_sum a (end_line ∷ time_at 86400 ∷ K) ∙ total (λ l. credits a l.moves) in
        let y : sum_from (of_message (generated seed batches) (λ l. credits a l.moves)) 1 batches ≡ received (dca_name a) (all_entries (generated seed batches)) =
        sum_alike (of_message (generated seed batches) (λ l. credits a l.moves)) (λ n. sum_by (λ e. if same_name e.credit (dca_name a) then e.amount else 0) (entries (generated seed batches) n)) 1 batches
        (λ n l h. message_credits (generated seed batches) a n ∙ sum_members (λ e. one (nat_eq (credit_account (generated seed batches) e) a) e.amount) (λ e. if same_name e.credit (dca_name a) then e.amount else 0) (entries (generated seed batches) n) (λ e i. ap (λ b. one b e.amount) (name_is_number e.credit (named_here n l h e i).1 a low high)))
        ∙ in_all (λ e. if same_name e.credit (dca_name a) then e.amount else 0) in
        omega arith

    total_debits : (a : ℕ) → 1 ≤ a → a < 17 → debited (end_line ∷ time_at 86400 ∷ K) a ≡ paid (dca_name a) (all_entries (generated seed batches))
    total_debits a low high =
        let x : debited (end_line ∷ time_at 86400 ∷ K) a ≡ 0 + (0 + sum_from (of_message (generated seed batches) (λ l. debits a l.moves)) 1 batches) = debits_sum a (end_line ∷ time_at 86400 ∷ K) ∙ total (λ l. debits a l.moves) in
        let y : sum_from (of_message (generated seed batches) (λ l. debits a l.moves)) 1 batches ≡ paid (dca_name a) (all_entries (generated seed batches)) =
        sum_alike (of_message (generated seed batches) (λ l. debits a l.moves)) (λ n. sum_by (λ e. if same_name e.debit (dca_name a) then e.amount else 0) (entries (generated seed batches) n)) 1 batches
        (λ n l h. message_debits (generated seed batches) a n ∙ sum_members (λ e. one (nat_eq (debit_account (generated seed batches) e) a) e.amount) (λ e. if same_name e.debit (dca_name a) then e.amount else 0) (entries (generated seed batches) n) (λ e i. ap (λ b. one b e.amount) (name_is_number e.debit (named_here n l h e i).0 a low high)))
        ∙ in_all (λ e. if same_name e.debit (dca_name a) then e.amount else 0) in
        omega arith

    total_balance : (a : ℕ) → 1 ≤ a → a < 17 → balance (generated seed batches) (end_line ∷ time_at 86400 ∷ K) a ≡ closing (generated seed batches) a
    total_balance a low high = λ i. (dca_opens (generated seed batches) (accounts_are seed batches) (systems_are seed batches) a low high i + total_credits a low high i) - total_debits a low high i

    -- ---- the law

    comes_to_summary : ComesToSummary seed batches (end_line ∷ time_at 86400 ∷ K)
    unfolding summary summary_of_journal
    comes_to_summary = record {
      accepted = λ n low high. accepted_stays end_line (time_at 86400 ∷ K) n (accepted_stays (time_at 86400) K n (accepted_here n low (omega (arith, high))));
      settled = λ n low high. phase_end (generated seed batches) (time_at 86400 ∷ K) n ∙ settled_over (generated seed batches) 86400 K n (worked.settled n (is_there n low (omega (arith, high))));
      booked = λ n k low high from to. all_in_it n k (is_there n low (omega (arith, high))) from (omega (arith, to)) (is_b (sort_of (generated seed batches) n)) refl;
      lines = total_lines;
      moves = total_moves;
      balances = λ a low high. total_balance a low (omega (arith, high));
      text = (λ i. head_text (message_count seed batches i) (total_lines i) (total_moves i) ++ holdings_alike (balance (generated seed batches) (end_line ∷ time_at 86400 ∷ K)) (closing (generated seed batches)) total_balance i);
    }
      where
        all_in_it : (n k : ℕ) → is_message (sort_of (generated seed batches) n) ≡ true → 1 ≤ k → k < 1 + length (entries (generated seed batches) n) → (b : Bool) → is_b (sort_of (generated seed batches) n) ≡ b →
            (is_booked (end_line ∷ time_at 86400 ∷ K) n k || is_some (settled_whole (end_line ∷ time_at 86400 ∷ K) n)) ≡ true
        all_in_it n k m from to true e = or_right (is_booked (end_line ∷ time_at 86400 ∷ K) n k) _ (stays (is_all_of n) end_line (time_at 86400 ∷ K) (stays (is_all_of n) (time_at 86400) K (is_whole (generated seed batches) is_ample K worked n m e)))
        all_in_it n k m from to false e = or_left _ (is_some (settled_whole (end_line ∷ time_at 86400 ∷ K) n)) (ap is_some (booked_end (time_at 86400 ∷ K) n k) ∙ booked_over 86400 K n k ∙ all_booked (generated seed batches) is_ample K worked n m e k from to)

pub summary_is_every_journals : SummaryIsEveryJournals
summary_is_every_journals seed batches J s some small legal complete =
    let n = complete_shape (generated seed batches) (ample seed batches small) J legal complete in
    subst (ComesToSummary seed batches) (sym n.1) (comes_to_summary seed batches small n.0 n.2)

-- the same of a day that is the trial's
pub is_summary : (day : Day) (seed batches : ℕ) (J : History) → seed < 2 ^ 31 → 1 ≤ batches → batches ≤ 10000 → day ≡ generated seed batches → IsLegal day J → is_complete J ≡ true → summary_of_journal day J ≡ summary seed batches
is_summary day seed batches J s some small is legal complete =
    ap (λ d. summary_of_journal d J) is ∙ (summary_is_every_journals seed batches J s some small (subst (λ d. IsLegal d J) is legal) complete).text

pub written_comes_to_summary : (seed batches : ℕ) → seed < 2 ^ 31 → 1 ≤ batches → batches ≤ 10000 → ComesToSummary seed batches (plain (generated seed batches))
written_comes_to_summary seed batches s some small =
    let p = plain_ends (generated seed batches) (generated_is_sound seed batches small) in
    summary_is_every_journals seed batches (plain (generated seed batches)) s some small p.0 p.1
