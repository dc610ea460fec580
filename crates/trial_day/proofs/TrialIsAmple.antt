-- The day of a trial is ample.
use Rattle.std.proofs.Common.{◌≡◌, ℕ, ◌+◌, ◌≤◌, ◌<◌, true, false, not, List, [], ◌∷◌, Option, Some, None, refl, sym, ap, ◌∙◌, subst, arith, length, ◌⊎◌, inl, inr}
use Rattle.std.specs.Prelude.{sum_by, map, slice_get}
use Rattle.std.specs.Option.{option_map_or}
use Rattle.cash_amounts.specs.declared.records.Procedure.{Procedure}
use Rattle.cash_amounts.specs.declared.records.Procedure.TheVariants.{A, B, E}
use Rattle.cash_amounts.specs.Tests.{some_passes}
use Rattle.batch_records.specs.DayRecord.{Day}
use Rattle.batch_records.specs.declared.day.Message.{Message}
use Rattle.batch_records.specs.declared.day.Entry.{Entry}
use Rattle.batch_records.specs.Sound.{entries_in}
use Rattle.batch_records.specs.Repeats.{is_repeat, message_at}
use Rattle.commit_journal.specs.declared.line.Code.TheVariants as line_codes
use Rattle.commit_journal.specs.Line.{History}
use Rattle.machine.specs.Records.Setup.{opening, technical}
use Rattle.machine.specs.Telling.History.{clock}
use Rattle.machine.specs.Stages.Intake.{intake_code, amount_of}
use Rattle.machine.specs.Records.Messages.{Sort, Missing, BatchA, BatchB, BatchE, sort_of, sort_of_body, is_message, is_a, is_a_or_b, info_in, earliest_in, till_in, info_end, earliest, stated_end, entries, is_debit_entry, is_credit, is_credit_entry, debit_account, technical_of, procedure_of_sort}
use Rattle.machine.specs.Words.{numbered}
use Rattle.settlement_laws.proofs.Base.Lists.{IsIn, never, from_map}
use Rattle.settlement_laws.proofs.DayEnd.Progress.{body_message}
use Rattle.trial_day.specs.declared.draws.Trio.{Trio}
use Rattle.trial_day.specs.Trial.{technical_a, technical_b, credit_entry, transfer_entry, entries_over, system_of_message, batch, drawn_entries, trial_message, trial_accounts, trial_systems, generated}
use Rattle.trial_day.proofs.Ample.{Ample, is_drawn}
use Rattle.trial_day.proofs.TrialSetup.{number_of_a, number_of_b}
use Rattle.trial_day.proofs.TrialMessages.{accounts_are, systems_are, stops_are, message_cases, no_repeat, system_low, system_high, sum_small}
use Rattle.trial_day.proofs.TrialAmple.{DrawnBatch, drawn_batch, named_a, named_b, role_a, role_b, over_rich, credit_not, transfer_rich, no_subs_here}
use Rattle.trial_day.proofs.TrialIntake.{passes_well, passes_a, passes_b, passes_e, sort_is, sender_is, entries_are, over_length, transfer_length}
use Rattle.trial_day.proofs.TrialSound.{good_message, generated_is_sound}

module _ (seed batches : ℕ) where
  -- what a number has that is no message's, and what one has that is
  by_message : (P : Option Message → Type 0) → P None → ((m : Message) (n : ℕ) → m ≡ trial_message seed n → P (Some m)) → (n : ℕ) → P (message_at (generated seed batches) n)
  by_message P none some n = here (message_cases seed batches n)
    where
      here : (message_at (generated seed batches) n ≡ None) ⊎ ((1 ≤ n) × (n < 1 + batches) × (message_at (generated seed batches) n ≡ Some (trial_message seed n))) → P (message_at (generated seed batches) n)
      here (inl e) = subst P (sym e) none
      here (inr r) = subst P (sym r.2) (some (trial_message seed n) n refl)

  no_info_end : (n : ℕ) → info_end (generated seed batches) n ≡ None
  unfolding trial_message
  no_info_end = by_message (λ o. option_map_or (λ (m : Message). info_in m.body) o None ≡ None) refl (λ m n e. ap (λ (m : Message). info_in m.body) e)

  no_earliest : (n : ℕ) → earliest (generated seed batches) n ≡ None
  unfolding trial_message
  no_earliest = by_message (λ o. option_map_or (λ (m : Message). earliest_in m.body) o None ≡ None) refl (λ m n e. ap (λ (m : Message). earliest_in m.body) e)

  no_stated_end : (n : ℕ) → stated_end (generated seed batches) n ≡ None
  unfolding trial_message
  no_stated_end = by_message (λ o. option_map_or (λ (m : Message). till_in m.body) o None ≡ None) refl (λ m n e. ap (λ (m : Message). till_in m.body) e)

  all_small : (n : ℕ) (e : Entry) → IsIn e (entries (generated seed batches) n) → e.amount ≤ 10000
  all_small n e = by_message (λ o. IsIn e (option_map_or (λ (m : Message). entries_in m.body) o []) → e.amount ≤ 10000) (λ i. absurd i) (λ m i q j. (good_message seed i).high e (subst (λ (m : Message). IsIn e (entries_in m.body)) q j)) n

  few_in_all : (n : ℕ) → sum_by amount_of (entries (generated seed batches) n) ≤ 80000
  few_in_all = by_message (λ o. sum_by amount_of (option_map_or (λ (m : Message). entries_in m.body) o []) ≤ 80000) (omega arith) (λ m i q. subst (λ (m : Message). sum_by amount_of (entries_in m.body) ≤ 80000) (sym q)
      (let g = good_message seed i in let s = sum_small (entries_in (trial_message seed i).body) g.high in omega (arith, s, g.few)))

-- ---- the batches

fifth : (name : List ℕ) (ts : List Trio) → length ts ≡ 4 → (u : Trio) × (slice_get (entries_over name ts) 4 ≡ Some (credit_entry name u))
fifth name (a ∷ b ∷ c ∷ d ∷ []) h = (a, refl)
fifth name [] h = cc
fifth name (a ∷ []) h = cc
fifth name (a ∷ b ∷ []) h = cc
fifth name (a ∷ b ∷ c ∷ []) h = cc
fifth name (a ∷ b ∷ c ∷ d ∷ e ∷ ts) h = cc

pub record BatchFacts (day : Day) (n : ℕ) : Type 0 where
  pub drawn : is_drawn (sort_of day n) ≡ true
  pub taken_well : (J : History) → clock J ≡ 0 → intake_code day J n ≡ line_codes.Ok
  pub filled : 1 ≤ length (entries day n)
  pub credited : is_a (sort_of day n) ≡ true → (k : ℕ) × (is_credit day n k ≡ true)
  pub rich : (e : Entry) → IsIn e (entries day n) → (is_a_or_b (sort_of day n) ≡ true → is_debit_entry day n e ≡ true) → 100000000000 ≤ opening day (debit_account day e)

clock_first : clock [] ≡ 0
unfolding clock
clock_first = refl

module _ (day : Day) (accounts : day.accounts ≡ trial_accounts) (systems : day.systems ≡ trial_systems) (n : ℕ) (fresh : is_repeat day n ≡ false) (ts : List Trio) (four : length ts ≡ 4) where
  low : 1 ≤ system_of_message n
  low = system_low n

  high : system_of_message n < 9
  high = system_high n

  facts_a : message_at day n ≡ Some (batch n A (entries_over (technical_a (system_of_message n)) ts)) → BatchFacts day n
  facts_a at =
      let es : List Entry = entries_over (technical_a (system_of_message n)) ts in
      let sort : sort_of day n ≡ BatchA = sort_is day [] n clock_first A es at in
      let is : entries day n ≡ es = entries_are day [] n clock_first A es at in
      let named = named_a day accounts systems (system_of_message n) low high in
      let own : technical_of day n ≡ Some (number_of_a (system_of_message n)) = (λ i. technical day (sender_is day [] n clock_first A es at i) (procedure_of_sort (sort i))) ∙ role_a day accounts systems (system_of_message n) low high in
      let past : 17 ≤ number_of_a (system_of_message n) = omega (arith, low) in
      let c = fifth (technical_a (system_of_message n)) ts four in
      record {
        drawn = ap is_drawn sort;
        taken_well = λ J before. passes_well BatchA day J n (passes_a day accounts systems J n before fresh ts four at);
        filled = let x : length (entries day n) ≡ length es = ap length is in omega (arith, x, over_length (technical_a (system_of_message n)) ts, four);
        credited = λ a. (5, ap (λ (xs : List Entry). some_passes (is_credit_entry day n) (numbered xs 5)) is ∙ ap (some_passes (is_credit_entry day n)) c.1 ∙ ap not (credit_not day accounts systems n (technical_a (system_of_message n)) (number_of_a (system_of_message n)) past named own c.0));
        rich = λ e i d. over_rich day accounts systems n (technical_a (system_of_message n)) (number_of_a (system_of_message n)) past named own ts e (subst (IsIn e) is i) (d (ap is_a_or_b sort));
      }

  facts_b : message_at day n ≡ Some (batch n B (entries_over (technical_b (system_of_message n)) ts)) → BatchFacts day n
  facts_b at =
      let es : List Entry = entries_over (technical_b (system_of_message n)) ts in
      let sort : sort_of day n ≡ BatchB = sort_is day [] n clock_first B es at in
      let is : entries day n ≡ es = entries_are day [] n clock_first B es at in
      let named = named_b day accounts systems (system_of_message n) low high in
      let own : technical_of day n ≡ Some (number_of_b (system_of_message n)) = (λ i. technical day (sender_is day [] n clock_first B es at i) (procedure_of_sort (sort i))) ∙ role_b day accounts systems (system_of_message n) low high in
      let past : 17 ≤ number_of_b (system_of_message n) = omega (arith, low) in
      record {
        drawn = ap is_drawn sort;
        taken_well = λ J before. passes_well BatchB day J n (passes_b day accounts systems J n before fresh ts four at);
        filled = let x : length (entries day n) ≡ length es = ap length is in omega (arith, x, over_length (technical_b (system_of_message n)) ts, four);
        credited = λ a. never (is_a (sort_of day n)) a (ap is_a sort);
        rich = λ e i d. over_rich day accounts systems n (technical_b (system_of_message n)) (number_of_b (system_of_message n)) past named own ts e (subst (IsIn e) is i) (d (ap is_a_or_b sort));
      }

  facts_e : message_at day n ≡ Some (batch n E (map transfer_entry ts)) → BatchFacts day n
  facts_e at =
      let es : List Entry = map transfer_entry ts in
      let sort : sort_of day n ≡ BatchE = sort_is day [] n clock_first E es at in
      let is : entries day n ≡ es = entries_are day [] n clock_first E es at in
      record {
        drawn = ap is_drawn sort;
        taken_well = λ J before. passes_well BatchE day J n (passes_e day accounts systems J n before fresh ts four at);
        filled = let x : length (entries day n) ≡ length es = ap length is in omega (arith, x, transfer_length ts, four);
        credited = λ a. never (is_a (sort_of day n)) a (ap is_a sort);
        rich = λ e i d. let r = from_map transfer_entry ts e (subst (IsIn e) is i) in subst (λ x. 100000000000 ≤ opening day (debit_account day x)) r.2 (transfer_rich day accounts systems r.0);
      }

pub batch_facts : (seed batches : ℕ) → batches ≤ 10000 → (n : ℕ) → is_message (sort_of (generated seed batches) n) ≡ true → BatchFacts (generated seed batches) n
unfolding drawn_entries
batch_facts seed batches small n m = here b.drawn
  where
    b : DrawnBatch (generated seed batches) n
    b = drawn_batch seed batches n m

    at_of : (p : Procedure) → b.procedure ≡ p → message_at (generated seed batches) n ≡ Some (batch n p (drawn_entries p (system_of_message n) b.own))
    at_of p e = subst (λ p. message_at (generated seed batches) n ≡ Some (batch n p (drawn_entries p (system_of_message n) b.own))) e b.at

    here : (b.procedure ≡ A) ⊎ ((b.procedure ≡ B) ⊎ (b.procedure ≡ E)) → BatchFacts (generated seed batches) n
    here (inl e) = facts_a (generated seed batches) (accounts_are seed batches) (systems_are seed batches) n (no_repeat seed batches small n) b.own b.four (at_of A e)
    here (inr (inl e)) = facts_b (generated seed batches) (accounts_are seed batches) (systems_are seed batches) n (no_repeat seed batches small n) b.own b.four (at_of B e)
    here (inr (inr e)) = facts_e (generated seed batches) (accounts_are seed batches) (systems_are seed batches) n (no_repeat seed batches small n) b.own b.four (at_of E e)

pub ample : (seed batches : ℕ) → batches ≤ 10000 → Ample (generated seed batches)
ample seed batches small = record {
  sound = generated_is_sound seed batches small;
  no_stops = stops_are seed batches;
  no_subs = no_subs_here (generated seed batches) (accounts_are seed batches) (systems_are seed batches);
  drawn = λ n m. (batch_facts seed batches small n m).drawn;
  no_info = no_info_end seed batches;
  no_early = no_earliest seed batches;
  no_end = no_stated_end seed batches;
  taken_well = λ J n m. (batch_facts seed batches small n m).taken_well J;
  filled = λ n m. (batch_facts seed batches small n m).filled;
  credited = λ n a. (batch_facts seed batches small n (a_there (sort_of (generated seed batches) n) a)).credited a;
  small = all_small seed batches;
  few = few_in_all seed batches;
  rich = all_rich;
}
  where
    a_there : (s : Sort) → is_a s ≡ true → is_message s ≡ true
    a_there BatchA h = refl
    a_there _ h = cc

    all_rich : (n : ℕ) (e : Entry) → IsIn e (entries (generated seed batches) n) → (is_a_or_b (sort_of (generated seed batches) n) ≡ true → is_debit_entry (generated seed batches) n e ≡ true) → 100000000000 ≤ opening (generated seed batches) (debit_account (generated seed batches) e)
    all_rich n e i d = (batch_facts seed batches small n (there (message_at (generated seed batches) n) refl i)).rich e i d
      where
        there : (o : Option Message) → message_at (generated seed batches) n ≡ o → IsIn e (option_map_or (λ (m : Message). entries_in m.body) o []) → is_message (option_map_or (λ (m : Message). sort_of_body m.body) o Missing) ≡ true
        there None q i = absurd i
        there (Some x) q i = body_message x.body
