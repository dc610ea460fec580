-- A batch that is taken well has a technical account, and its balance is at hand.
use Rattle.std.proofs.Common.{◌≡◌, ℕ, Bool, true, false, not, ◌&&◌, ◌||◌, List, [], ◌∷◌, ◌++◌, Option, Some, None, refl, sym, ◌∙◌, subst}
use Rattle.std.specs.Prelude.{flat_map, option_to_list, nat_eq, length, unwrap_or}
use Rattle.std.specs.List.{list_all}
use Rattle.std.proofs.lemmas.Bool.{and_parts, eqb-true}
use Rattle.cash_amounts.specs.declared.records.Procedure.TheVariants.{D}
use Rattle.batch_records.specs.DayRecord.{Day}
use Rattle.batch_records.specs.declared.day.Entry.{Entry}
use Rattle.commit_journal.specs.declared.line.Code.{Code}
use Rattle.commit_journal.specs.declared.line.Code.TheVariants as line_codes
use Rattle.commit_journal.specs.declared.line.Want.TheVariants as wants
use Rattle.commit_journal.specs.Line.{History}
use Rattle.machine.specs.Words.{first_case, first_some, when, same_account, is_empty}
use Rattle.machine.specs.Records.Setup.{account_named}
use Rattle.machine.specs.Records.Messages.{BatchD, sort_of, is_d, is_batch, entries, stated_count, technical_of}
use Rattle.machine.specs.Stages.Intake.{count_is_wrong, entry_fits, intake_code}
use Rattle.rule_book.specs.IntakeParts.{common_fault, own_code}
use Rattle.machine.specs.Making.Accounts.{accounts_of, accounts_taken}
use Rattle.rule_book.specs.Answering.{has_accounts}
use Rattle.rule_book.proofs.Codes.{batch_code}
use Rattle.machine.proofs.SortFacts.{d_is}

-- ---- what a batch passes that is taken well

abbrev table : Bool → Bool → Bool → Bool → Bool → Bool → Bool → Code
table a b c d e f g = unwrap_or
    (first_some (when a line_codes.Du ∷ when b line_codes.Us ∷ when c line_codes.Pr ∷ when d line_codes.Ct ∷ when e line_codes.Sm ∷ []))
    (first_case ((f, line_codes.En) ∷ (g, line_codes.Ti) ∷ []) line_codes.Ok)

passed : (a b c d e f g : Bool) → table a b c d e f g ≡ line_codes.Ok → (d ≡ false) × (f ≡ false)
passed true b c d e f g h = cc
passed false true c d e f g h = cc
passed false false true d e f g h = cc
passed false false false true e f g h = cc
passed false false false false true f g h = cc
passed false false false false false true g h = cc
passed false false false false false false g h = (refl, refl)

by_rows : (day : Day) (J : History) (n : ℕ) → unwrap_or (common_fault D day n) (own_code D day J n) ≡ line_codes.Ok → (count_is_wrong day n ≡ false) × (not (list_all (entry_fits BatchD day n) (entries day n)) ≡ false)
unfolding common_fault own_code
by_rows day J n h = passed _ _ _ _ _ _ _ h

tests : (day : Day) (J : History) (n : ℕ) → sort_of day n ≡ BatchD → intake_code day J n ≡ line_codes.Ok → (count_is_wrong day n ≡ false) × (not (list_all (entry_fits BatchD day n) (entries day n)) ≡ false)
tests day J n s h = by_rows day J n (sym (batch_code D day J n s) ∙ h)

-- ---- its technical account

abbrev pub IsHeld : (ℕ → Bool) → Option ℕ → Type 0
IsHeld held t = (a : ℕ) × (t ≡ Some a) × (held a ≡ true)

same_held : (held : ℕ → Bool) (o t : Option ℕ) (rest more : List ℕ) → same_account o t ≡ true → list_all held ((option_to_list o ++ rest) ++ more) ≡ true → IsHeld held t
same_held held None t rest more s h = cc
same_held held (Some a) None rest more s h = cc
same_held held (Some a) (Some b) rest more s h = (b, refl, subst (λ x. held x ≡ true) (eqb-true a b s) (and_parts (held a) (list_all held (rest ++ more)) h).0)

first_held : (held : ℕ → Bool) (day : Day) (n : ℕ) (es : List Entry) → (is_empty es || not (nat_eq (length es) (stated_count day n))) ≡ false → not (list_all (entry_fits BatchD day n) es) ≡ false →
    list_all held (flat_map (accounts_of day) es) ≡ true → IsHeld held (technical_of day n)
first_held held day n [] c f h = cc
first_held held day n (e ∷ es) c f h = here (entry_fits BatchD day n e) refl f
  where
    here : (b : Bool) → entry_fits BatchD day n e ≡ b → not (b && list_all (entry_fits BatchD day n) es) ≡ false → IsHeld held (technical_of day n)
    here false k w = cc
    here true k w = same_held held (account_named day e.debit) (technical_of day n) (option_to_list (account_named day e.credit)) (flat_map (accounts_of day) es) (and_parts _ _ k).0 h

pub technical_held : (held : ℕ → Bool) (day : Day) (J : History) (n : ℕ) → is_d (sort_of day n) ≡ true → has_accounts held day (wants.In n) ≡ true → intake_code day J n ≡ line_codes.Ok → IsHeld held (technical_of day n)
technical_held held day J n d h ok =
    let s : sort_of day n ≡ BatchD = d_is (sort_of day n) d in
    let t = tests day J n s ok in
    first_held held day n (entries day n)
    (subst (λ x. (is_batch x && (is_empty (entries day n) || not (nat_eq (length (entries day n)) (stated_count day n)))) ≡ false) s t.0)
    t.1
    (subst (λ x. list_all held (accounts_taken x day n) ≡ true) s h)
