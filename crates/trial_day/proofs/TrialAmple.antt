-- The day of a trial is ample.
use Rattle.std.proofs.Common.{◌≡◌, ℕ, ◌+◌, ◌%◌, ◌≤◌, ◌<◌, true, false, not, ◌&&◌, ◌||◌, List, Option, Some, None, refl, sym, ap, ◌∙◌, subst, arith, length, ◌⊎◌, inl, inr}
use Rattle.std.specs.Prelude.{is_some, nat_eq, map, filter, sum_by, slice_get, unwrap_or}
use Rattle.std.specs.List.{list_any, position_from}
use Rattle.std.specs.Option.{option_map_or}
use Rattle.std.proofs.lemmas.Bool.{and_from, or_left, or_right, ne_eqb, eq-eqb}
use Rattle.cash_amounts.specs.declared.records.AccountRecord.{AccountRecord}
use Rattle.cash_amounts.specs.declared.records.SystemRecord.{SystemRecord}
use Rattle.cash_amounts.specs.declared.records.Procedure.{Procedure}
use Rattle.cash_amounts.specs.declared.records.Procedure.TheVariants.{A, B, E}
use Rattle.cash_amounts.specs.Kinds.{is_dca, is_sub, is_technical, same_procedure, flag_of}
use Rattle.cash_amounts.specs.Tests.{same_name, some_passes}
use Rattle.batch_records.specs.DayRecord.{Day}
use Rattle.batch_records.specs.declared.day.Message.{Message}
use Rattle.batch_records.specs.declared.day.Entry.{Entry}
use Rattle.batch_records.specs.Repeats.{message_at}
use Rattle.machine.specs.Words.{same_account, numbered}
use Rattle.machine.specs.Records.Setup.{account_at, account_named, opening, is_dca_account, is_sub_account, is_system, technical, lists_procedure, uses}
use Rattle.machine.specs.Stages.Intake.{amount_of, sides_differ, entry_fits}
use Rattle.machine.specs.Records.Messages.{Missing, BatchE, sort_of, sort_of_body, is_message, entries, pays_technical, is_paid_from_technical, is_debit_entry, debit_account, technical_of}
use Rattle.settlement_laws.proofs.Base.Lists.{IsIn}
use Rattle.trial_day.specs.declared.draws.Trio.{Trio}
use Rattle.trial_day.specs.Trial.{trios, dca_name, system_name, technical_a, technical_b, drawn_debit, drawn_credit, drawn_other, debit_entry, credit_entry, transfer_entry, entries_over, procedure_of_message, system_of_message, batch, drawn_entries, trial_message, trial_accounts, trial_systems, generated}
use Rattle.trial_day.proofs.TrialSetup.{dca_facts, system_facts, number_of_a, number_of_b, no_sub}
use Rattle.trial_day.proofs.TrialMessages.{message_cases, drawn_procedure, debit_low, debit_high, credit_low, credit_high, other_low, other_high, other_differs, over_cases, first_side, second_side, sides_same}

-- ---- accounts and systems of a day with this setup

module _ (day : Day) (accounts : day.accounts ≡ trial_accounts) (systems : day.systems ≡ trial_systems) where
  pub dca_named : (a : ℕ) → 1 ≤ a → a < 17 → account_named day (dca_name a) ≡ Some a
  dca_named a low high = ap (λ rs. position_from (λ (r : AccountRecord). same_name r.name (dca_name a)) 1 rs) accounts ∙ (dca_facts a low high).named

  pub dca_opens : (a : ℕ) → 1 ≤ a → a < 17 → opening day a ≡ 100000000000
  dca_opens a low high = ap (λ rs. option_map_or (λ (r : AccountRecord). r.opening) (numbered rs a) 0) accounts ∙ (dca_facts a low high).opens

  pub dca_is_one : (a : ℕ) → 1 ≤ a → a < 17 → is_dca_account day (dca_name a) ≡ true
  dca_is_one a low high =
      ap (λ o. some_passes (λ b. some_passes (λ (r : AccountRecord). is_dca r.kind) (account_at day b)) o) (dca_named a low high)
      ∙ ap (λ rs. some_passes (λ (r : AccountRecord). is_dca r.kind) (numbered rs a)) accounts ∙ (dca_facts a low high).kind

  pub named_a : (s : ℕ) → 1 ≤ s → s < 9 → account_named day (technical_a s) ≡ Some (number_of_a s)
  named_a s low high = ap (λ rs. position_from (λ (r : AccountRecord). same_name r.name (technical_a s)) 1 rs) accounts ∙ (system_facts s low high).named_a

  pub named_b : (s : ℕ) → 1 ≤ s → s < 9 → account_named day (technical_b s) ≡ Some (number_of_b s)
  named_b s low high = ap (λ rs. position_from (λ (r : AccountRecord). same_name r.name (technical_b s)) 1 rs) accounts ∙ (system_facts s low high).named_b

  role : (s : ℕ) (p : Procedure) (t : ℕ) → position_from (λ (r : AccountRecord). is_technical r.kind && same_name r.owner (system_name s) && some_passes (λ q. same_procedure q p) r.procedure) 1 trial_accounts ≡ Some t → technical day (system_name s) p ≡ Some t
  role s p t h = ap (λ rs. position_from (λ (r : AccountRecord). is_technical r.kind && same_name r.owner (system_name s) && some_passes (λ q. same_procedure q p) r.procedure) 1 rs) accounts ∙ h

  pub role_a : (s : ℕ) → 1 ≤ s → s < 9 → technical day (system_name s) A ≡ Some (number_of_a s)
  role_a s low high = role s A (number_of_a s) (system_facts s low high).role_a

  pub role_b : (s : ℕ) → 1 ≤ s → s < 9 → technical day (system_name s) B ≡ Some (number_of_b s)
  role_b s low high = role s B (number_of_b s) (system_facts s low high).role_b

  lists : (s : ℕ) (p : Procedure) → list_any (λ (r : SystemRecord). same_name r.name (system_name s) && some_passes (λ listed. listed) (slice_get r.procedures (flag_of p))) trial_systems ≡ true → lists_procedure day (system_name s) p ≡ true
  lists s p h = ap (λ rs. list_any (λ (r : SystemRecord). same_name r.name (system_name s) && some_passes (λ listed. listed) (slice_get r.procedures (flag_of p))) rs) systems ∙ h

  pub uses_a : (s : ℕ) → 1 ≤ s → s < 9 → uses day (system_name s) A ≡ true
  uses_a s low high = and_from (lists_procedure day (system_name s) A) _ (lists s A (system_facts s low high).lists_a) (ap is_some (role_a s low high))

  pub uses_b : (s : ℕ) → 1 ≤ s → s < 9 → uses day (system_name s) B ≡ true
  uses_b s low high = and_from (lists_procedure day (system_name s) B) _ (lists s B (system_facts s low high).lists_b) (ap is_some (role_b s low high))

  pub uses_e : (s : ℕ) → 1 ≤ s → s < 9 → uses day (system_name s) E ≡ true
  uses_e s low high = and_from (lists_procedure day (system_name s) E) _ (lists s E (system_facts s low high).lists_e) refl

  pub is_one : (s : ℕ) → 1 ≤ s → s < 9 → is_system day (system_name s) ≡ true
  is_one s low high = ap (λ rs. list_any (λ (r : SystemRecord). same_name r.name (system_name s)) rs) systems ∙ (system_facts s low high).is_there

  pub no_subs_here : (a : ℕ) → is_sub_account day a ≡ false
  no_subs_here a = ap (λ rs. some_passes (λ (r : AccountRecord). is_sub r.kind) (numbered rs a)) accounts ∙ no_sub a

  -- ---- entries over a technical account of the message

  module _ (n : ℕ) (name : List ℕ) (t : ℕ) (past : 17 ≤ t) (named : account_named day name ≡ Some t) (is_own : technical_of day n ≡ Some t) where
    same_as_own : (a : List ℕ) (x : ℕ) → account_named day a ≡ Some x → same_account (account_named day a) (technical_of day n) ≡ nat_eq x t
    same_as_own a x e = λ i. same_account (e i) (is_own i)

    not_own : (x : ℕ) → x < 17 → nat_eq x t ≡ false
    not_own x h = ne_eqb x t (λ e. omega (arith, past, h, e))

    pub debit_pays : (u : Trio) → pays_technical day n (debit_entry name u) ≡ true
    debit_pays u = same_as_own name t named ∙ eq-eqb t t refl

    pub credit_not : (u : Trio) → pays_technical day n (credit_entry name u) ≡ false
    credit_not u = same_as_own (dca_name (drawn_credit u)) (drawn_credit u) (dca_named (drawn_credit u) (credit_low u) (credit_high u)) ∙ not_own (drawn_credit u) (credit_high u)

    debit_not_from : (u : Trio) → is_paid_from_technical day n (debit_entry name u) ≡ false
    debit_not_from u = same_as_own (dca_name (drawn_debit u)) (drawn_debit u) (dca_named (drawn_debit u) (debit_low u) (debit_high u)) ∙ not_own (drawn_debit u) (debit_high u)

    credit_from : (u : Trio) → is_paid_from_technical day n (credit_entry name u) ≡ true
    credit_from u = same_as_own name t named ∙ eq-eqb t t refl

    pub over_fits : (ts : List Trio) (e : Entry) → IsIn e (entries_over name ts) → (is_dca_account day e.debit && pays_technical day n e || is_paid_from_technical day n e && is_dca_account day e.credit) ≡ true
    over_fits ts e i = elim (over_cases name ts e i) [
      | inl (u, q) ↦ subst (λ (e : Entry). (is_dca_account day e.debit && pays_technical day n e || is_paid_from_technical day n e && is_dca_account day e.credit) ≡ true) q
          (or_left _ _ (and_from (is_dca_account day (dca_name (drawn_debit u))) _ (dca_is_one (drawn_debit u) (debit_low u) (debit_high u)) (debit_pays u)))
      | inr (u, q) ↦ subst (λ (e : Entry). (is_dca_account day e.debit && pays_technical day n e || is_paid_from_technical day n e && is_dca_account day e.credit) ≡ true) q
          (or_right (is_dca_account day name && pays_technical day n (credit_entry name u)) _ (and_from (is_paid_from_technical day n (credit_entry name u)) _ (credit_from u) (dca_is_one (drawn_credit u) (credit_low u) (credit_high u))))
    ]

    pub over_even : (ts : List Trio) → entries day n ≡ entries_over name ts → sides_differ day n ≡ false
    over_even ts e =
        (λ i. not (nat_eq (sum_by amount_of (filter (pays_technical day n) (e i))) (sum_by amount_of (filter (is_paid_from_technical day n) (e i)))))
        ∙ (λ i. not (nat_eq (sum_by amount_of (first_side name ts (pays_technical day n) debit_pays credit_not i)) (sum_by amount_of (second_side name ts (is_paid_from_technical day n) debit_not_from credit_from i))))
        ∙ ap not (eq-eqb (sum_by amount_of (map (debit_entry name) ts)) (sum_by amount_of (map (credit_entry name) ts)) (sides_same name ts))

    pub over_rich : (ts : List Trio) (e : Entry) → IsIn e (entries_over name ts) → is_debit_entry day n e ≡ true → 100000000000 ≤ opening day (debit_account day e)
    over_rich ts e i d = elim (over_cases name ts e i) [
      | inl (u, q) ↦ subst (λ (e : Entry). 100000000000 ≤ opening day (debit_account day e)) q
          (let o : opening day (unwrap_or (account_named day (dca_name (drawn_debit u))) 0) ≡ 100000000000 = ap (λ o. opening day (unwrap_or o 0)) (dca_named (drawn_debit u) (debit_low u) (debit_high u)) ∙ dca_opens (drawn_debit u) (debit_low u) (debit_high u) in omega (arith, o))
      | inr (u, q) ↦ absurd (no (sym (credit_not u) ∙ ap (pays_technical day n) q ∙ d))
    ]
      where
        no : false ≡ true → ⊥
        no z = cc

  -- ---- entries from bank to bank

  pub transfer_fits : (n : ℕ) (u : Trio) → entry_fits BatchE day n (transfer_entry u) ≡ true
  transfer_fits n u =
      and_from _ _ (and_from (is_dca_account day (dca_name (drawn_debit u))) _ (dca_is_one (drawn_debit u) (debit_low u) (debit_high u)) (dca_is_one (drawn_other u) (other_low u) (other_high u)))
      (λ i. not (apart i))
    where
      apart : same_account (account_named day (dca_name (drawn_debit u))) (account_named day (dca_name (drawn_other u))) ≡ false
      apart = (λ i. same_account (dca_named (drawn_debit u) (debit_low u) (debit_high u) i) (dca_named (drawn_other u) (other_low u) (other_high u) i)) ∙ ne_eqb (drawn_debit u) (drawn_other u) (other_differs u)

  pub transfer_rich : (u : Trio) → 100000000000 ≤ opening day (debit_account day (transfer_entry u))
  transfer_rich u = let o : opening day (unwrap_or (account_named day (dca_name (drawn_debit u))) 0) ≡ 100000000000 = ap (λ o. opening day (unwrap_or o 0)) (dca_named (drawn_debit u) (debit_low u) (debit_high u)) ∙ dca_opens (drawn_debit u) (debit_low u) (debit_high u) in omega (arith, o)

-- ---- a batch of a trial

-- What the other proofs need of a batch of the day, whatever its procedure.
pub record DrawnBatch (day : Day) (n : ℕ) : Type 0 where
  pub procedure : Procedure
  pub own : List Trio
  pub at : message_at day n ≡ Some (batch n procedure (drawn_entries procedure (system_of_message n) own))
  pub four : length own ≡ 4
  pub drawn : (procedure ≡ A) ⊎ ((procedure ≡ B) ⊎ (procedure ≡ E))

pub drawn_batch : (seed batches n : ℕ) → is_message (sort_of (generated seed batches) n) ≡ true → DrawnBatch (generated seed batches) n
unfolding trial_message
drawn_batch seed batches n m = here (message_cases seed batches n)
  where
    here : (message_at (generated seed batches) n ≡ None) ⊎ ((1 ≤ n) × (n < 1 + batches) × (message_at (generated seed batches) n ≡ Some (trial_message seed n))) → DrawnBatch (generated seed batches) n
    here (inl e) = absurd (no (sym (ap (λ (o : Option Message). is_message (option_map_or (λ m. sort_of_body m.body) o Missing)) e) ∙ m))
      where
        no : false ≡ true → ⊥
        no z = cc
    here (inr r) = record { procedure = procedure_of_message n; own = trios seed n; at = r.2; four = refl; drawn = drawn_procedure (n % 3) }
