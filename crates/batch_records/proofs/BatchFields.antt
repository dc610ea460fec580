-- The fields of a batch that are written in the form of a version are read in it.
use Rattle.std.proofs.Common.{◌≡◌, ◌⊎◌, ◌<◌, ◌≤◌, ℕ, List, ◌∷◌, Option, Some, None, Bool, true, false, not, refl, inl, inr, arith}
use Rattle.std.specs.Prelude.{◌==◌, ◌&&◌, ◌||◌, codes, decimal, is_none, option_map}
use Rattle.std.specs.List.{list_all}
use Rattle.std.proofs.lemmas.Bool.{eqb-true}
use Rattle.cash_amounts.specs.AmountText.{amount_text}
use Rattle.cash_amounts.specs.declared.cents.TheConstants.{MAX_CENTS}
use Rattle.cash_amounts.specs.declared.records.Procedure.{Procedure}
use Rattle.cash_amounts.specs.declared.records.Procedure.TheVariants as procedures
use Rattle.period_calendar.specs.MomentTexts.{time_text}
use Rattle.batch_records.specs.DayTexts.{batch_fields, procedure_word, time_fields}
use Rattle.batch_records.specs.Kinds.{fields_in, has_other_fields}
use Rattle.batch_records.specs.Made.{time_in}
use Rattle.batch_records.specs.Records.{Fields}
use Rattle.batch_records.specs.Sound.{is_time_or_none, may_wait}
use Rattle.batch_records.specs.Versions.{count_field, from_text, has_stated_times, has_labels, info_text, is_never_early, is_no_time, is_third, is_version, sum_field, till_text}
use Rattle.batch_records.specs.declared.kinds.RecordKind.TheVariants as record_kinds
use Rattle.batch_records.proofs.BoolFacts.{and_both, le_meant, not_true, or_either}
use Rattle.batch_records.proofs.LineFacts.{is_plain}
use Rattle.batch_records.proofs.SpellingFacts.{amount_plain, decimal_plain, time_or_empty_plain, time_plain, time_reads}

-- ---- the versions

pub version_cases : (version : ℕ) → is_version version ≡ true → (version ≡ 1) ⊎ ((version ≡ 2) ⊎ (version ≡ 3))
version_cases version h =
    elim (or_either (version == 1) (has_labels version) h) [
      | inl one ↦ inl (eqb-true version 1 one)
      | inr labels ↦
          elim (or_either (version == 2) (is_third version) labels) [
            | inl two ↦ inr (inl (eqb-true version 2 two))
            | inr three ↦ inr (inr (eqb-true version 3 three))
          ]
    ]

-- ---- each field of a batch, by whether the version has labels

-- the record of a batch, with any text for its procedure
abbrev pub batch_row : ℕ → List ℕ → List ℕ → List ℕ → Option ℕ → Option ℕ → Option ℕ → ℕ → ℕ → Fields
batch_row version sender id word info early till count sum = codes "BAT" ∷ sender ∷ id ∷ word ∷ batch_fields version info early till count sum

count_by : (b : Bool) (version : ℕ) (sender id word : List ℕ) (info early till : Option ℕ) (count sum : ℕ) → has_labels version ≡ b → count_field version (batch_row version sender id word info early till count sum) ≡ decimal count
unfolding count_field batch_fields
count_by true version sender id word info early till count sum e = rw e refl
count_by false version sender id word info early till count sum e = rw e refl

pub count_is : (version : ℕ) (sender id word : List ℕ) (info early till : Option ℕ) (count sum : ℕ) → count_field version (batch_row version sender id word info early till count sum) ≡ decimal count
count_is version sender id word info early till count sum = count_by (has_labels version) version sender id word info early till count sum refl

sum_by : (b : Bool) (version : ℕ) (sender id word : List ℕ) (info early till : Option ℕ) (count sum : ℕ) → has_labels version ≡ b → sum_field version (batch_row version sender id word info early till count sum) ≡ amount_text sum
unfolding sum_field batch_fields
sum_by true version sender id word info early till count sum e = rw e refl
sum_by false version sender id word info early till count sum e = rw e refl

pub sum_is : (version : ℕ) (sender id word : List ℕ) (info early till : Option ℕ) (count sum : ℕ) → sum_field version (batch_row version sender id word info early till count sum) ≡ amount_text sum
sum_is version sender id word info early till count sum = sum_by (has_labels version) version sender id word info early till count sum refl

info_by : (b : Bool) (version : ℕ) (sender id word : List ℕ) (info early till : Option ℕ) (count sum : ℕ) → has_labels version ≡ b → info_text version (batch_row version sender id word info early till count sum) ≡ option_map time_text info
unfolding info_text batch_fields
info_by true version sender id word None None None count sum e = rw e refl
info_by true version sender id word None None (Some t) count sum e = rw e refl
info_by true version sender id word None (Some f) None count sum e = rw e refl
info_by true version sender id word None (Some f) (Some t) count sum e = rw e refl
info_by true version sender id word (Some i) None None count sum e = rw e refl
info_by true version sender id word (Some i) None (Some t) count sum e = rw e refl
info_by true version sender id word (Some i) (Some f) None count sum e = rw e refl
info_by true version sender id word (Some i) (Some f) (Some t) count sum e = rw e refl
info_by false version sender id word None early till count sum e = rw e refl
info_by false version sender id word (Some i) early till count sum e = rw e refl

pub info_is : (version : ℕ) (sender id word : List ℕ) (info early till : Option ℕ) (count sum : ℕ) → info_text version (batch_row version sender id word info early till count sum) ≡ option_map time_text info
info_is version sender id word info early till count sum = info_by (has_labels version) version sender id word info early till count sum refl

-- a batch of version 1 has no earliest time
from_by : (b : Bool) (version : ℕ) (sender id word : List ℕ) (info early till : Option ℕ) (count sum : ℕ) → has_labels version ≡ b → (is_none early || b) ≡ true → from_text version (batch_row version sender id word info early till count sum) ≡ option_map time_text early
unfolding from_text batch_fields
from_by true version sender id word None None None count sum e own = rw e refl
from_by true version sender id word None None (Some t) count sum e own = rw e refl
from_by true version sender id word None (Some f) None count sum e own = rw e refl
from_by true version sender id word None (Some f) (Some t) count sum e own = rw e refl
from_by true version sender id word (Some i) None None count sum e own = rw e refl
from_by true version sender id word (Some i) None (Some t) count sum e own = rw e refl
from_by true version sender id word (Some i) (Some f) None count sum e own = rw e refl
from_by true version sender id word (Some i) (Some f) (Some t) count sum e own = rw e refl
from_by false version sender id word info None till count sum e own = rw e refl
from_by false version sender id word info (Some f) till count sum e own = cc own

pub from_is : (version : ℕ) (sender id word : List ℕ) (info early till : Option ℕ) (count sum : ℕ) → (is_none early || has_labels version) ≡ true → from_text version (batch_row version sender id word info early till count sum) ≡ option_map time_text early
from_is version sender id word info early till count sum own = from_by (has_labels version) version sender id word info early till count sum refl own

till_by : (b : Bool) (version : ℕ) (sender id word : List ℕ) (info early till : Option ℕ) (count sum : ℕ) → has_labels version ≡ b → till_text version (batch_row version sender id word info early till count sum) ≡ option_map time_text till
unfolding till_text batch_fields
till_by true version sender id word None None None count sum e = rw e refl
till_by true version sender id word None None (Some t) count sum e = rw e refl
till_by true version sender id word None (Some f) None count sum e = rw e refl
till_by true version sender id word None (Some f) (Some t) count sum e = rw e refl
till_by true version sender id word (Some i) None None count sum e = rw e refl
till_by true version sender id word (Some i) None (Some t) count sum e = rw e refl
till_by true version sender id word (Some i) (Some f) None count sum e = rw e refl
till_by true version sender id word (Some i) (Some f) (Some t) count sum e = rw e refl
till_by false version sender id word info early None count sum e = rw e refl
till_by false version sender id word info early (Some t) count sum e = rw e refl

pub till_is : (version : ℕ) (sender id word : List ℕ) (info early till : Option ℕ) (count sum : ℕ) → till_text version (batch_row version sender id word info early till count sum) ≡ option_map time_text till
till_is version sender id word info early till count sum = till_by (has_labels version) version sender id word info early till count sum refl

-- it has the fields of its form, where its procedure may have an earliest time if it states one
form_by : (b : Bool) (version : ℕ) (sender id word : List ℕ) (info early till : Option ℕ) (count sum : ℕ) → has_labels version ≡ b → (is_none early || not (is_never_early word)) ≡ true → has_other_fields version record_kinds.Bat (batch_row version sender id word info early till count sum) ≡ false
unfolding has_other_fields has_stated_times fields_in batch_fields
form_by true version sender id word None None None count sum e fit = rw e refl
form_by true version sender id word None None (Some t) count sum e fit = rw e refl
form_by true version sender id word None (Some f) None count sum e fit = rw (e, not_true (is_never_early word) fit) refl
form_by true version sender id word None (Some f) (Some t) count sum e fit = rw (e, not_true (is_never_early word) fit) refl
form_by true version sender id word (Some i) None None count sum e fit = rw e refl
form_by true version sender id word (Some i) None (Some t) count sum e fit = rw e refl
form_by true version sender id word (Some i) (Some f) None count sum e fit = rw (e, not_true (is_never_early word) fit) refl
form_by true version sender id word (Some i) (Some f) (Some t) count sum e fit = rw (e, not_true (is_never_early word) fit) refl
form_by false version sender id word info early till count sum e fit = rw e refl

pub form_is : (version : ℕ) (sender id word : List ℕ) (info early till : Option ℕ) (count sum : ℕ) → (is_none early || not (is_never_early word)) ≡ true → has_other_fields version record_kinds.Bat (batch_row version sender id word info early till count sum) ≡ false
form_is version sender id word info early till count sum fit = form_by (has_labels version) version sender id word info early till count sum refl fit

-- a procedure that may have an earliest time isn't one that never has it
pub early_word : (p : Procedure) (early : Option ℕ) → (is_none early || may_wait p) ≡ true → (is_none early || not (is_never_early (procedure_word p))) ≡ true
early_word procedures.A None h = refl
early_word procedures.A (Some f) h = refl
early_word procedures.B None h = refl
early_word procedures.B (Some f) h = refl
early_word procedures.C None h = refl
early_word procedures.C (Some f) h = cc h
early_word procedures.D None h = refl
early_word procedures.D (Some f) h = cc h
early_word procedures.E None h = refl
early_word procedures.E (Some f) h = cc h

-- what a fit earliest time tells of the procedure, and of the version
pub fit_parts : (version : ℕ) (p : Procedure) (early : Option ℕ) → (is_none early || has_labels version && may_wait p) ≡ true
    → ((is_none early || may_wait p) ≡ true) × ((is_none early || has_labels version) ≡ true)
fit_parts version p None h = (refl, refl)
fit_parts version p (Some t) h = let both = and_both (has_labels version) (may_wait p) h in (both.1, both.0)

-- ---- a time that is read is the one that was written

pub end_fine : (o : Option ℕ) → is_time_or_none o ≡ true → is_no_time (option_map time_text o) ≡ false
end_fine None h = refl
end_fine (Some t) h = rw (time_reads t (le_meant t 86400 h)) refl

pub end_back : (o : Option ℕ) → is_time_or_none o ≡ true → time_in (option_map time_text o) ≡ o
end_back None h = refl
end_back (Some t) h = time_reads t (le_meant t 86400 h)

-- ---- and they are plain

times_plain : (info early till : Option ℕ) → list_all is_plain (time_fields info early till) ≡ true
times_plain None None None = refl
times_plain None None (Some t) = rw (time_plain t) refl
times_plain None (Some f) None = rw (time_plain f) refl
times_plain None (Some f) (Some t) = rw (time_plain f, time_plain t) refl
times_plain (Some i) None None = rw (time_plain i) refl
times_plain (Some i) None (Some t) = rw (time_plain i, time_plain t) refl
times_plain (Some i) (Some f) None = rw (time_plain i, time_plain f) refl
times_plain (Some i) (Some f) (Some t) = rw (time_plain i, time_plain f, time_plain t) refl

plain_by : (b : Bool) (version : ℕ) (info early till : Option ℕ) (count sum : ℕ) → has_labels version ≡ b → count < 10000000 → sum ≤ MAX_CENTS → list_all is_plain (batch_fields version info early till count sum) ≡ true
unfolding batch_fields
plain_by true version info early till count sum e few small = rw (e, decimal_plain count (omega arith), amount_plain sum small) (times_plain info early till)
plain_by false version info early till count sum e few small = rw (e, time_or_empty_plain info, time_or_empty_plain till, decimal_plain count (omega arith), amount_plain sum small) refl

pub fields_plain : (version : ℕ) (info early till : Option ℕ) (count sum : ℕ) → count < 10000000 → sum ≤ MAX_CENTS → list_all is_plain (batch_fields version info early till count sum) ≡ true
fields_plain version info early till count sum few small = plain_by (has_labels version) version info early till count sum refl few small
