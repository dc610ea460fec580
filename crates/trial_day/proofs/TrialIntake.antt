-- Before time has passed each batch of a trial is accepted.
use Rattle.std.proofs.Common.{◌≡◌, ℕ, ◌+◌, ◌≤◌, ◌<◌, Bool, true, false, not, ◌&&◌, ◌||◌, List, [], ◌∷◌, Option, Some, None, refl, ap, ◌∙◌, subst, arith, length, ◌⊎◌, inl, inr, length-append}
use Rattle.std.specs.Prelude.{nat_eq, nat_lt, map, sum_by, unwrap_or}
use Rattle.std.specs.List.{list_all}
use Rattle.std.specs.Option.{option_map_or}
use Rattle.std.proofs.lemmas.Bool.{eq-eqb}
use Rattle.std.proofs.lemmas.List.{length-map}
use Rattle.cash_amounts.specs.declared.records.Procedure.{Procedure}
use Rattle.cash_amounts.specs.declared.records.Procedure.TheVariants.{A, B, E}
use Rattle.cash_amounts.specs.Tests.{some_passes}
use Rattle.batch_records.specs.DayRecord.{Day}
use Rattle.batch_records.specs.declared.day.Message.{Message}
use Rattle.batch_records.specs.declared.day.Entry.{Entry}
use Rattle.batch_records.specs.Sound.{entries_in}
use Rattle.batch_records.specs.Repeats.{is_repeat, message_at}
use Rattle.commit_journal.specs.declared.line.Code.{Code}
use Rattle.commit_journal.specs.declared.line.Code.TheVariants as line_codes
use Rattle.commit_journal.specs.Line.{History}
use Rattle.machine.specs.Words.{first_case, is_empty}
use Rattle.machine.specs.Records.Setup.{is_system, uses}
use Rattle.machine.specs.Telling.History.{clock}
use Rattle.machine.specs.Records.Reserves.{kept}
use Rattle.machine.specs.Telling.Balances.{balance}
use Rattle.machine.specs.Stages.Intake.{intake_code, amount_of, sender_is_wrong, procedure_is_unused, count_is_wrong, sum_is_wrong, is_not_zero, entry_fits, times_are_wrong, periods_are_wrong, info_is_wrong, earliest_is_wrong, are_crossed, cycle_is_wrong, cycle_is_wrong_in, accounts_are_wrong, is_locked, target_is_missing, phase_is_wrong, is_no_party}
use Rattle.machine.specs.Records.Messages.{Sort, Missing, BatchA, BatchB, BatchE, sort_of, sort_of_body, sort_of_batch, is_batch, is_liquidity, sender, info_in, earliest_in, till_in, count_in, sum_in, entries, transfer, debit_account, technical_of, technical_of, procedure_of_sort}
use Rattle.machine.specs.Records.Setup.{technical}
use Rattle.settlement_laws.proofs.Base.Lists.{all_of, from_map}
use Rattle.trial_day.specs.declared.draws.Trio.{Trio}
use Rattle.trial_day.specs.Trial.{system_name, technical_a, technical_b, debit_entry, credit_entry, transfer_entry, entries_over, system_of_message, batch, trial_accounts, trial_systems}
use Rattle.trial_day.proofs.Ample.{is_drawn}
use Rattle.trial_day.proofs.TrialSetup.{number_of_a, number_of_b}
use Rattle.trial_day.proofs.TrialMessages.{system_low, system_high}
use Rattle.trial_day.proofs.TrialAmple.{is_one, uses_a, uses_b, uses_e, named_a, named_b, role_a, role_b, over_fits, over_even, transfer_fits}

-- the table with its first rows as they come
abbrev by_rows : Day → History → ℕ → Sort → Bool → Bool → Bool → Bool → Bool → Bool → Bool → Bool → Bool → Code
by_rows day J n s repeated from unused count sum uneven forms times cycle = first_case (
    (repeated, line_codes.Du) ∷ (from, line_codes.Us) ∷ (unused, line_codes.Pr) ∷ (count, line_codes.Ct) ∷ (sum, line_codes.Sm) ∷ (uneven, line_codes.Nz) ∷ (forms, line_codes.En) ∷ (times, line_codes.Ti) ∷ (cycle, line_codes.Cy)
    ∷ (accounts_are_wrong s day n, line_codes.Ac)
    ∷ (is_liquidity s && some_passes (λ e. is_locked day J (debit_account day e)) (transfer day n), line_codes.Lk)
    ∷ (is_liquidity s && some_passes (λ e. nat_lt (balance day J (debit_account day e)) (e.amount + kept day (debit_account day e) false)) (transfer day n), line_codes.Nc)
    ∷ (target_is_missing s day J n, line_codes.Bt)
    ∷ (phase_is_wrong s day J n, line_codes.Ph)
    ∷ (is_no_party s day J n, line_codes.Np)
    ∷ []) line_codes.Ok

the_table : (day : Day) (J : History) (n : ℕ) → intake_code day J n ≡ by_rows day J n (sort_of day n) (is_repeat day n) (sender_is_wrong (sort_of day n) day (sender day n)) (procedure_is_unused (sort_of day n) day (sender day n)) (count_is_wrong day n) (sum_is_wrong day n) (is_not_zero (sort_of day n) day n) (not (list_all (entry_fits (sort_of day n) day n) (entries day n))) (times_are_wrong (sort_of day n) day J n) (cycle_is_wrong day J n)
unfolding intake_code
the_table day J n = refl

last_rows : (s : Sort) (day : Day) (J : History) (n : ℕ) → is_drawn s ≡ true → by_rows day J n s false false false false false false false false false ≡ line_codes.Ok
last_rows BatchA day J n d = refl
last_rows BatchB day J n d = refl
last_rows BatchE day J n d = refl
last_rows _ day J n d = cc

pub record Passes (s : Sort) (day : Day) (J : History) (n : ℕ) : Type 0 where
  pub of_sort : sort_of day n ≡ s
  pub drawn : is_drawn s ≡ true
  pub fresh : is_repeat day n ≡ false
  pub sent_well : sender_is_wrong s day (sender day n) ≡ false
  pub used : procedure_is_unused s day (sender day n) ≡ false
  pub counted : count_is_wrong day n ≡ false
  pub summed : sum_is_wrong day n ≡ false
  pub even : is_not_zero s day n ≡ false
  pub fits : list_all (entry_fits s day n) (entries day n) ≡ true
  pub in_time : times_are_wrong s day J n ≡ false
  pub no_cycle : cycle_is_wrong day J n ≡ false

pub passes_well : (s : Sort) (day : Day) (J : History) (n : ℕ) → Passes s day J n → intake_code day J n ≡ line_codes.Ok
passes_well s day J n h =
    the_table day J n
    ∙ (λ i. by_rows day J n (h.of_sort i) (h.fresh i) (sender_is_wrong (h.of_sort i) day (sender day n)) (procedure_is_unused (h.of_sort i) day (sender day n)) (h.counted i) (h.summed i) (is_not_zero (h.of_sort i) day n) (not (list_all (entry_fits (h.of_sort i) day n) (entries day n))) (times_are_wrong (h.of_sort i) day J n) (h.no_cycle i))
    ∙ (λ i. by_rows day J n s false (h.sent_well i) (h.used i) false false (h.even i) (not (h.fits i)) (h.in_time i) false)
    ∙ last_rows s day J n h.drawn

-- ---- the rows of a batch

not_empty : (es : List Entry) → 1 ≤ length es → is_empty es ≡ false
not_empty [] h = absurd (omega arith)
not_empty (e ∷ es) h = refl

pub over_length : (name : List ℕ) (ts : List Trio) → length (entries_over name ts) ≡ length ts + length ts
over_length name ts =
    let a = length-append (map (debit_entry name) ts) (map (credit_entry name) ts) in
    let b : length (map (debit_entry name) ts) ≡ length ts = length-map ts (debit_entry name) in
    let c : length (map (credit_entry name) ts) ≡ length ts = length-map ts (credit_entry name) in
    omega (arith, a, b, c)

pub transfer_length : (ts : List Trio) → length (map transfer_entry ts) ≡ length ts
transfer_length ts = length-map ts transfer_entry

module _ (day : Day) (J : History) (n : ℕ) (before : clock J ≡ 0) (p : Procedure) (es : List Entry) (at : message_at day n ≡ Some (batch n p es)) where
  pub sort_is : sort_of day n ≡ sort_of_batch p
  sort_is = ap (λ (o : Option Message). option_map_or (λ m. sort_of_body m.body) o Missing) at

  pub sender_is : sender day n ≡ system_name (system_of_message n)
  sender_is = ap (λ (o : Option Message). option_map_or (λ m. m.sender) o []) at

  pub entries_are : entries day n ≡ es
  entries_are = ap (λ (o : Option Message). option_map_or (λ m. entries_in m.body) o []) at

  count_right : is_empty es ≡ false → is_batch (sort_of_batch p) ≡ true → count_is_wrong day n ≡ false
  count_right filled b =
      ap (λ (o : Option Message). is_batch (option_map_or (λ m. sort_of_body m.body) o Missing) && (is_empty (option_map_or (λ m. entries_in m.body) o []) || not (nat_eq (length (option_map_or (λ m. entries_in m.body) o [])) (option_map_or (λ m. count_in m.body) o 0)))) at
      ∙ (λ i. b i && (filled i || not (eq-eqb (length es) (length es) refl i)))

  sum_right : is_batch (sort_of_batch p) ≡ true → sum_is_wrong day n ≡ false
  sum_right b =
      ap (λ (o : Option Message). is_batch (option_map_or (λ m. sort_of_body m.body) o Missing) && not (nat_eq (sum_by amount_of (option_map_or (λ m. entries_in m.body) o [])) (option_map_or (λ m. sum_in m.body) o 0))) at
      ∙ (λ i. b i && not (eq-eqb (sum_by amount_of es) (sum_by amount_of es) refl i))

  time_right : periods_are_wrong day J n ≡ false
  time_right = λ i. not (nat_lt (before i) (unwrap_or (option_map_or (λ (m : Message). till_in m.body) (at i) None) 86400)) || info_is_wrong day J n (option_map_or (λ (m : Message). info_in m.body) (at i) None)
      || earliest_is_wrong day J n (option_map_or (λ (m : Message). earliest_in m.body) (at i) None)
      || are_crossed (option_map_or (λ (m : Message). info_in m.body) (at i) None) (option_map_or (λ (m : Message). earliest_in m.body) (at i) None)

  sent_right : (s : List ℕ) → is_system day (system_name (system_of_message n)) ≡ true → not (is_system day (sender day n)) ≡ false
  sent_right s h = λ i. not ((ap (is_system day) sender_is ∙ h) i)

cycle_right : (day : Day) (J : History) (n : ℕ) (p : Procedure) (es : List Entry) → (p ≡ A) ⊎ ((p ≡ B) ⊎ (p ≡ E)) → message_at day n ≡ Some (batch n p es) → cycle_is_wrong day J n ≡ false
cycle_right day J n p es d at = ap (λ (o : Option Message). some_passes (λ m. cycle_is_wrong_in day J m.sender m.body) o) at ∙ elim d [
  | inl e ↦ ap (λ q. cycle_is_wrong_in day J (system_name (system_of_message n)) (batch n q es).body) e
  | inr (inl e) ↦ ap (λ q. cycle_is_wrong_in day J (system_name (system_of_message n)) (batch n q es).body) e
  | inr (inr e) ↦ ap (λ q. cycle_is_wrong_in day J (system_name (system_of_message n)) (batch n q es).body) e
]

module _ (day : Day) (accounts : day.accounts ≡ trial_accounts) (systems : day.systems ≡ trial_systems) (J : History) (n : ℕ) (before : clock J ≡ 0) (fresh : is_repeat day n ≡ false) (ts : List Trio) (four : length ts ≡ 4) where
  low : 1 ≤ (system_of_message n)
  low = system_low n

  high : (system_of_message n) < 9
  high = system_high n

  pub passes_a : message_at day n ≡ Some (batch n A (entries_over (technical_a (system_of_message n)) ts)) → Passes BatchA day J n
  passes_a at =
      let es : List Entry = entries_over (technical_a (system_of_message n)) ts in
      let from : sender day n ≡ system_name (system_of_message n) = sender_is day J n before A es at in
      let is : entries day n ≡ es = entries_are day J n before A es at in
      let own : technical_of day n ≡ Some (number_of_a (system_of_message n)) = (λ i. technical day (from i) (procedure_of_sort (sort_is day J n before A es at i))) ∙ role_a day accounts systems (system_of_message n) low high in
      let many : length es ≡ length ts + length ts = over_length (technical_a (system_of_message n)) ts in
      record {
        of_sort = sort_is day J n before A es at;
        drawn = refl;
        fresh = fresh;
        sent_well = λ i. not ((ap (is_system day) from ∙ is_one day accounts systems (system_of_message n) low high) i);
        used = λ i. not ((ap (λ x. uses day x A) from ∙ uses_a day accounts systems (system_of_message n) low high) i);
        counted = count_right day J n before A es at (not_empty es (omega (arith, many, four))) refl;
        summed = sum_right day J n before A es at refl;
        even = over_even day accounts systems n (technical_a (system_of_message n)) (number_of_a (system_of_message n)) (omega (arith, low)) (named_a day accounts systems (system_of_message n) low high) own ts is;
        fits = ap (list_all (entry_fits BatchA day n)) is ∙ all_of (entry_fits BatchA day n) es (λ e i. over_fits day accounts systems n (technical_a (system_of_message n)) (number_of_a (system_of_message n)) (omega (arith, low)) (named_a day accounts systems (system_of_message n) low high) own ts e i);
        in_time = time_right day J n before A es at;
        no_cycle = cycle_right day J n A es (inl refl) at;
      }

  pub passes_b : message_at day n ≡ Some (batch n B (entries_over (technical_b (system_of_message n)) ts)) → Passes BatchB day J n
  passes_b at =
      let es : List Entry = entries_over (technical_b (system_of_message n)) ts in
      let from : sender day n ≡ system_name (system_of_message n) = sender_is day J n before B es at in
      let is : entries day n ≡ es = entries_are day J n before B es at in
      let own : technical_of day n ≡ Some (number_of_b (system_of_message n)) = (λ i. technical day (from i) (procedure_of_sort (sort_is day J n before B es at i))) ∙ role_b day accounts systems (system_of_message n) low high in
      let many : length es ≡ length ts + length ts = over_length (technical_b (system_of_message n)) ts in
      record {
        of_sort = sort_is day J n before B es at;
        drawn = refl;
        fresh = fresh;
        sent_well = λ i. not ((ap (is_system day) from ∙ is_one day accounts systems (system_of_message n) low high) i);
        used = λ i. not ((ap (λ x. uses day x B) from ∙ uses_b day accounts systems (system_of_message n) low high) i);
        counted = count_right day J n before B es at (not_empty es (omega (arith, many, four))) refl;
        summed = sum_right day J n before B es at refl;
        even = over_even day accounts systems n (technical_b (system_of_message n)) (number_of_b (system_of_message n)) (omega (arith, low)) (named_b day accounts systems (system_of_message n) low high) own ts is;
        fits = ap (list_all (entry_fits BatchB day n)) is ∙ all_of (entry_fits BatchB day n) es (λ e i. over_fits day accounts systems n (technical_b (system_of_message n)) (number_of_b (system_of_message n)) (omega (arith, low)) (named_b day accounts systems (system_of_message n) low high) own ts e i);
        in_time = time_right day J n before B es at;
        no_cycle = cycle_right day J n B es (inr (inl refl)) at;
      }

  pub passes_e : message_at day n ≡ Some (batch n E (map transfer_entry ts)) → Passes BatchE day J n
  passes_e at =
      let es : List Entry = map transfer_entry ts in
      let from : sender day n ≡ system_name (system_of_message n) = sender_is day J n before E es at in
      let is : entries day n ≡ es = entries_are day J n before E es at in
      let many : length es ≡ length ts = transfer_length ts in
      record {
        of_sort = sort_is day J n before E es at;
        drawn = refl;
        fresh = fresh;
        sent_well = λ i. not ((ap (is_system day) from ∙ is_one day accounts systems (system_of_message n) low high) i);
        used = λ i. not ((ap (λ x. uses day x E) from ∙ uses_e day accounts systems (system_of_message n) low high) i);
        counted = count_right day J n before E es at (not_empty es (omega (arith, many, four))) refl;
        summed = sum_right day J n before E es at refl;
        even = refl;
        fits = ap (list_all (entry_fits BatchE day n)) is ∙ all_of (entry_fits BatchE day n) es (λ e i. let r = from_map transfer_entry ts e i in subst (λ x. entry_fits BatchE day n x ≡ true) r.2 (transfer_fits day accounts systems n r.0));
        in_time = time_right day J n before E es at;
        no_cycle = cycle_right day J n E es (inr (inr refl)) at;
      }
