-- What holds of an accepted A batch: the forms of its entries, its equal sides, and its technical account.
use Rattle.std.proofs.Common.{◌≡◌, ℕ, Bool, true, false, not, List, sym, ◌∙◌, subst}
use Rattle.std.specs.Prelude.{is_some, sum_by, filter}
use Rattle.std.specs.List.{list_all}
use Rattle.std.proofs.lemmas.Bool.{eqb-true, not-false, and_parts}
use Rattle.batch_records.specs.DayRecord.{Day}
use Rattle.cash_amounts.specs.declared.records.Procedure.TheVariants.{A}
use Rattle.commit_journal.specs.Line.{History}
use Rattle.machine.specs.Records.Setup.{uses, technical, lists_procedure}
use Rattle.machine.specs.Records.Messages.{BatchA, sort_of, sender, entries, technical_account, procedure_of_sort, pays_technical, is_paid_from_technical, is_debit_entry, is_credit_entry, debit_entries, credit_entries}
use Rattle.machine.specs.Telling.History.{is_accepted}
use Rattle.machine.specs.Stages.Intake.{amount_of, entry_fits, sides_differ, is_not_zero, procedure_is_unused}
use Rattle.machine.specs.Legal.{IsLegal}
use Rattle.settlement_laws.proofs.Base.IntakeFacts.{accepted_taken}
use Rattle.settlement_laws.proofs.ProcedureB.SettledWhole.{paid_sum}
use Rattle.settlement_laws.proofs.ProcedureA.DebitedByOwnBatches.{is_a_account, technical_is_a}
use Rattle.settlement_laws.proofs.Base.Weights.{weight, every, weight_every}

-- what the debit entries come to whose numbers pass, and the credit entries
abbrev pub debit_weight : Day → ℕ → (ℕ → Bool) → ℕ
debit_weight day n test = weight (is_debit_entry day n) test 1 (entries day n)

abbrev pub credit_weight : Day → ℕ → (ℕ → Bool) → ℕ
credit_weight day n test = weight (is_credit_entry day n) test 1 (entries day n)

pub record FactsOfA (day : Day) (n : ℕ) : Type 0 where
  pub forms_fit : list_all (entry_fits BatchA day n) (entries day n) ≡ true
  pub is_even : debit_weight day n every ≡ credit_weight day n every
  pub has_technical : is_a_account day (technical_account day n) ≡ true

even_of : (day : Day) (n : ℕ) → list_all (entry_fits BatchA day n) (entries day n) ≡ true → sides_differ day n ≡ false → debit_weight day n every ≡ credit_weight day n every
even_of day n f h =
    let a : sum_by amount_of (filter (pays_technical day n) (entries day n)) ≡ sum_by amount_of (filter (is_paid_from_technical day n) (entries day n)) = eqb-true _ _ (not-false _ h) in
    let b : sum_by amount_of (credit_entries day n) ≡ sum_by amount_of (filter (is_paid_from_technical day n) (entries day n)) = paid_sum day n (entries day n) f in
    let c : sum_by amount_of (debit_entries day n) ≡ debit_weight day n every = weight_every (is_debit_entry day n) 1 (entries day n) in
    let d : sum_by amount_of (credit_entries day n) ≡ credit_weight day n every = weight_every (is_credit_entry day n) 1 (entries day n) in
    sym c ∙ a ∙ sym b ∙ d

uses_technical : (day : Day) (system : List ℕ) → not (uses day system A) ≡ false → is_some (technical day system A) ≡ true
uses_technical day system h = (and_parts (lists_procedure day system A) (is_some (technical day system A)) (not-false _ h)).1

pub facts_of_a : (day : Day) (J : History) (n : ℕ) → IsLegal day J → sort_of day n ≡ BatchA → is_accepted J n ≡ true → FactsOfA day n
facts_of_a day J n legal e h =
    let p = (accepted_taken day J n legal h).passed_then in
    let f : list_all (entry_fits BatchA day n) (entries day n) ≡ true = subst (λ s. list_all (entry_fits s day n) (entries day n) ≡ true) e (not-false _ p.entries_right) in
    let z : sides_differ day n ≡ false = subst (λ s. is_not_zero s day n ≡ false) e p.zero_right in
    let u : is_some (technical day (sender day n) A) ≡ true = uses_technical day (sender day n) (subst (λ s. procedure_is_unused s day (sender day n) ≡ false) e p.procedure_right) in
    record {
      forms_fit = f;
      is_even = even_of day n f z;
      has_technical = technical_is_a day n e (subst (λ s. is_some (technical day (sender day n) (procedure_of_sort s)) ≡ true) (sym e) u);
    }
