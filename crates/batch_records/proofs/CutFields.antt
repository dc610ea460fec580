-- A test of a field that a record of a day has answers alike of the field and of what is kept of it.
use Rattle.std.proofs.Common.{◌≡◌, ◌∙◌, ◌+◌, ◌<◌, ◌≤◌, ◌⊎◌, ℕ, Bool, true, false, not, List, [], ◌∷◌, Some, None, length, take, drop, refl, sym, ap, arith, inl, inr}
use Rattle.std.specs.Prelude.{◌==◌, ◌&&◌, if◌then◌else◌, nat_le, is_none, map}
use Rattle.std.proofs.Math.ListN.{get_or-map}
use Rattle.std.proofs.lemmas.Bool.{cases_Bool}
use Rattle.std.proofs.lemmas.List.{length-map, length-take-le, take_all}
use Rattle.period_calendar.specs.Times.{time_of_text}
use Rattle.record_rows.specs.Rows.{kept_field}
use Rattle.batch_records.specs.Records.{Fields, field}
use Rattle.batch_records.specs.Versions.{behind, count_field, from_label, from_place, from_text, has_label, has_labels, has_stated_times, info_label, info_text, is_never_early, is_no_time, states_from, sum_field, text_behind, text_or_none, till_label, till_place, till_text}
use Rattle.batch_records.proofs.BoolFacts.{le_failed, le_meant}
use Rattle.batch_records.proofs.LongTexts.{long_labelled, long_never_early, long_time}

-- ---- one field

short_or_long : (text : List ℕ) → (length text ≤ 64) ⊎ (64 < length text)
short_or_long text = elim (cases_Bool (nat_le (length text) 64)) [ inl e ↦ inl (le_meant (length text) 64 e) | inr e ↦ inr (le_failed (length text) 64 e) ]

abbrev pub AnswersAlike : {X : Type 0} → (List ℕ → X) → Type 0
AnswersAlike test = (text : List ℕ) → test (kept_field text) ≡ test text

-- a test that has the same answer at every long text
pub alike : {X : Type 0} (test : List ℕ → X) (d : X) → ((text : List ℕ) → 35 < length text → test text ≡ d) → (text : List ℕ) → test (kept_field text) ≡ test text
alike test d fails text =
    elim (short_or_long text) [
      | inl l ↦ ap test (take_all 64 text l)
      | inr l ↦
          let size : length (take 64 text) ≡ 64 = length-take-le 64 text (omega (arith, l)) in
          fails (take 64 text) (omega (arith, size)) ∙ sym (fails text (omega (arith, l)))
    ]

-- and a text of which it has another is short
pub short_of : {X : Type 0} (test : List ℕ → X) (d : X) → ((text : List ℕ) → 35 < length text → test text ≡ d) → (text : List ℕ) → (test text ≡ d → ⊥) → length text ≤ 64
short_of test d fails text h =
    elim (short_or_long text) [
      | inl l ↦ l
      | inr l ↦ absurd (h (fails text (omega (arith, l))))
    ]

-- a short one is kept whole
pub kept_whole : (text : List ℕ) → length text ≤ 64 → kept_field text ≡ text
kept_whole text l = take_all 64 text l

-- ---- a field of a record

abbrev pub cut : Fields → Fields
cut r = map kept_field r

pub cut_field : (r : Fields) (i : ℕ) → field (cut r) i ≡ kept_field (field r i)
cut_field r i = get_or-map kept_field r i []

pub at_field : {X : Type 0} (test : List ℕ → X) → ((text : List ℕ) → test (kept_field text) ≡ test text) → (r : Fields) (i : ℕ) → test (field (cut r) i) ≡ test (field r i)
at_field test h r i = ap test (cut_field r i) ∙ h (field r i)

pub cut_length : (r : Fields) → length (cut r) ≡ length r
cut_length r = length-map r kept_field

-- ---- labels

pub label_alike : (x y z u v : ℕ) → AnswersAlike (has_label (x ∷ y ∷ z ∷ u ∷ v ∷ []))
label_alike x y z u v [] = refl
label_alike x y z u v (a ∷ []) = refl
label_alike x y z u v (a ∷ b ∷ []) = refl
label_alike x y z u v (a ∷ b ∷ c ∷ []) = refl
label_alike x y z u v (a ∷ b ∷ c ∷ d ∷ []) = refl
label_alike x y z u v (a ∷ b ∷ c ∷ d ∷ e ∷ rest) = refl

pub info_alike : AnswersAlike (has_label info_label)
info_alike = label_alike 105 110 102 111 61

pub from_alike : AnswersAlike (has_label from_label)
from_alike = label_alike 102 114 111 109 61

pub till_alike : AnswersAlike (has_label till_label)
till_alike = label_alike 116 105 108 108 61

-- where a batch with labels states its times
pub behind_same : (label : List ℕ) → AnswersAlike (has_label label) → (r : Fields) (i : ℕ) → behind label (cut r) i ≡ behind label r i
behind_same label h r i = ap (λ b. if b then i + 1 else i) (at_field (has_label label) h r i)

pub from_same : (r : Fields) → from_place (cut r) ≡ from_place r
from_same r = behind_same info_label info_alike r 6

pub till_same : (r : Fields) → till_place (cut r) ≡ till_place r
till_same r = ap (behind from_label (cut r)) (from_same r) ∙ behind_same from_label from_alike r (from_place r)

last_same : (r : Fields) → behind till_label (cut r) (till_place (cut r)) ≡ behind till_label r (till_place r)
last_same r = ap (behind till_label (cut r)) (till_same r) ∙ behind_same till_label till_alike r (till_place r)

early_same : (r : Fields) → states_from (cut r) ≡ states_from r
early_same r = ap (λ i. has_label from_label (field (cut r) i)) (from_same r) ∙ at_field (has_label from_label) from_alike r (from_place r)

pub stated_same : (r : Fields) → has_stated_times (cut r) ≡ has_stated_times r
unfolding has_stated_times
stated_same r = λ j.
    nat_le 6 (cut_length r j) && (last_same r j == cut_length r j)
    && not (early_same r j && at_field is_never_early (alike is_never_early false long_never_early) r 3 j)

-- ---- the fields of a batch

pub count_kept : (version : ℕ) (r : Fields) → count_field version (cut r) ≡ kept_field (count_field version r)
unfolding count_field
count_kept version r = by (has_labels version)
  where
    by : (b : Bool) → (if b then field (cut r) 4 else field (cut r) 6) ≡ kept_field (if b then field r 4 else field r 6)
    by true = cut_field r 4
    by false = cut_field r 6

pub sum_kept : (version : ℕ) (r : Fields) → sum_field version (cut r) ≡ kept_field (sum_field version r)
unfolding sum_field
sum_kept version r = by (has_labels version)
  where
    by : (b : Bool) → (if b then field (cut r) 5 else field (cut r) 7) ≡ kept_field (if b then field r 5 else field r 7)
    by true = cut_field r 5
    by false = cut_field r 7

-- its times

labelled_is : (b : Bool) (text : List ℕ) → is_no_time (if b then Some text else None) ≡ (b && is_none (time_of_text text))
labelled_is true text = refl
labelled_is false text = refl

labelled_alike : (x y z u v : ℕ) → AnswersAlike (λ text. is_no_time (text_behind (x ∷ y ∷ z ∷ u ∷ v ∷ []) text))
labelled_alike x y z u v text =
    labelled_is (has_label (x ∷ y ∷ z ∷ u ∷ v ∷ []) (kept_field text)) (drop 5 (kept_field text))
    ∙ (λ j. label_alike x y z u v text j && is_none (alike (λ t. time_of_text (drop 5 t)) None long_labelled text j))
    ∙ sym (labelled_is (has_label (x ∷ y ∷ z ∷ u ∷ v ∷ []) text) (drop 5 text))

stated_alike : AnswersAlike (λ text. is_no_time (text_or_none text))
stated_alike [] = refl
stated_alike (c ∷ text) = ap is_none (alike time_of_text None long_time (c ∷ text))

pub info_time : (version : ℕ) (r : Fields) → is_no_time (info_text version (cut r)) ≡ is_no_time (info_text version r)
unfolding info_text
info_time version r = by (has_labels version)
  where
    by : (b : Bool) → is_no_time (if b then text_behind info_label (field (cut r) 6) else text_or_none (field (cut r) 4)) ≡ is_no_time (if b then text_behind info_label (field r 6) else text_or_none (field r 4))
    by true = at_field (λ text. is_no_time (text_behind info_label text)) (labelled_alike 105 110 102 111 61) r 6
    by false = at_field (λ text. is_no_time (text_or_none text)) stated_alike r 4

pub from_time : (version : ℕ) (r : Fields) → is_no_time (from_text version (cut r)) ≡ is_no_time (from_text version r)
unfolding from_text
from_time version r = by (has_labels version)
  where
    by : (b : Bool) → is_no_time (if b then text_behind from_label (field (cut r) (from_place (cut r))) else None) ≡ is_no_time (if b then text_behind from_label (field r (from_place r)) else None)
    by true =
        ap (λ i. is_no_time (text_behind from_label (field (cut r) i))) (from_same r)
        ∙ at_field (λ text. is_no_time (text_behind from_label text)) (labelled_alike 102 114 111 109 61) r (from_place r)
    by false = refl

pub till_time : (version : ℕ) (r : Fields) → is_no_time (till_text version (cut r)) ≡ is_no_time (till_text version r)
unfolding till_text
till_time version r = by (has_labels version)
  where
    by : (b : Bool) → is_no_time (if b then text_behind till_label (field (cut r) (till_place (cut r))) else text_or_none (field (cut r) 5))
        ≡ is_no_time (if b then text_behind till_label (field r (till_place r)) else text_or_none (field r 5))
    by true =
        ap (λ i. is_no_time (text_behind till_label (field (cut r) i))) (till_same r)
        ∙ at_field (λ text. is_no_time (text_behind till_label text)) (labelled_alike 116 105 108 108 61) r (till_place r)
    by false = at_field (λ text. is_no_time (text_or_none text)) stated_alike r 5
