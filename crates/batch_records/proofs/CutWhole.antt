-- A record without a code is kept whole.
use Rattle.std.proofs.Common.{◌≡◌, ◌∙◌, ◌+◌, ◌<◌, ◌≤◌, ◌⊎◌, ℕ, zero, suc, Bool, true, false, not, List, [], ◌∷◌, Option, Some, None, length, drop, refl, sym, ap, subst, arith, inl, inr}
use Rattle.std.specs.Prelude.{◌==◌, ◌&&◌, ◌||◌, if◌then◌else◌, nat_le, nat_lt, is_none, Err}
use Rattle.std.proofs.lemmas.Bool.{cases_Bool, eqb-true}
use Rattle.cash_amounts.specs.Names.{is_id, is_name}
use Rattle.cash_amounts.specs.SoundSetup.{is_system_name}
use Rattle.cash_amounts.specs.declared.records.AccountKind.{AccountKind}
use Rattle.cash_amounts.specs.declared.records.AccountKind.TheVariants as account_kinds
use Rattle.period_calendar.specs.Dates.{date_of_text}
use Rattle.period_calendar.specs.Times.{time_of_text}
use Rattle.period_calendar.specs.declared.date.DateFault.TheVariants as date_faults
use Rattle.record_rows.specs.Rows.{kept_row}
use Rattle.batch_records.specs.Amounts.{cents_of}
use Rattle.batch_records.specs.Codes.{first_code, has_bad_setup, has_bad_time, is_next_stop, is_unfit}
use Rattle.batch_records.specs.CountText.{count_of}
use Rattle.batch_records.specs.Kinds.{account_kind_in, fields_in, has_bad_amount, has_bad_date, has_bad_number, has_other_fields, has_other_link, has_other_word, is_no_date, is_paid, kind_named, kind_of, link_names}
use Rattle.batch_records.specs.Made.{last_stop}
use Rattle.batch_records.specs.Records.{Fields, field}
use Rattle.batch_records.specs.Step.{FaultIs, after}
use Rattle.batch_records.specs.Versions.{behind, count_field, from_label, from_place, from_text, has_label, has_labels, has_stated_times, info_label, info_text, is_never_early, is_no_time, states_from, sum_field, text_behind, text_or_none, till_label, till_place, till_text}
use Rattle.batch_records.specs.Words.{account_kind_named, is_answer, is_cycle, is_priority, is_procedures, is_version_word, procedure_named, technical_named}
use Rattle.batch_records.specs.declared.day.DayFault.{DayFault}
use Rattle.batch_records.specs.declared.kinds.RecordKind.{RecordKind}
use Rattle.batch_records.specs.declared.kinds.RecordKind.TheVariants as record_kinds
use Rattle.batch_records.specs.declared.so_far.SoFar.{SoFar}
use Rattle.batch_records.proofs.BoolFacts.{lt_failed, lt_meant, not_false, or_neither}
use Rattle.batch_records.proofs.CutCodes.{kept_all, kept_code, name_short}
use Rattle.batch_records.proofs.CutFields.{cut, kept_whole, short_of}
use Rattle.batch_records.proofs.Fine.{AllHold, IsFine, fine, fine_form, ids_hold, kind_known, names_hold, reserve_labels}
use Rattle.batch_records.proofs.LongRecords.{few_behind}
use Rattle.batch_records.proofs.LongTexts.{long_account_kind, long_answer, long_cents, long_count, long_cycle, long_date, long_id, long_kind, long_labelled, long_priority, long_procedure, long_procedures, long_technical, long_time, long_version}

-- ---- short fields

abbrev IsShort : List ℕ → Type 0
IsShort text = length text ≤ 64

-- so many fields of a record are short, from a place on
abbrev AreShort : Fields → ℕ → ℕ → Type 0
AreShort r i zero = Unit {0}
AreShort r i (suc n) = IsShort (field r i) × AreShort r (suc i) n

below : (k n : ℕ) → (k < n) ⊎ (n ≤ k)
below k n = elim (cases_Bool (nat_lt k n)) [ inl e ↦ inl (lt_meant k n e) | inr e ↦ inr (lt_failed k n e) ]

at_place : (r : Fields) (i n : ℕ) → AreShort r i n → (k : ℕ) → i ≤ k → k < i + n → IsShort (field r k)
at_place r i zero h k l m = absurd (omega (arith, l, m))
at_place r i (suc n) h k l m =
    elim (below i k) [
      | inl less ↦ at_place r (suc i) n h.1 k (omega (arith, less)) (omega (arith, m))
      | inr more ↦ let same : i ≡ k = omega (arith, l, more) in subst (λ (p : ℕ). IsShort (field r p)) same h.0
    ]

-- a record whose fields are short is kept whole
short_whole : (r : Fields) → ((k : ℕ) → k < length r → IsShort (field r k)) → cut r ≡ r
short_whole [] h = refl
short_whole (x ∷ r) h = λ j. kept_whole x (h 0 (omega arith)) j ∷ short_whole r (λ k l. h (suc k) (omega (arith, l))) j

row_whole : (r : Fields) (n : ℕ) → n ≤ 9 → length r ≡ n → AreShort r 0 n → kept_row r ≡ r
row_whole r n few e h = kept_all r (omega (arith, few, e)) ∙ short_whole r (λ k l. at_place r 0 n h k (omega arith) (omega (arith, l, e)))

-- ---- what a field is

id_short : (text : List ℕ) → is_id text ≡ true → IsShort text
id_short text h = short_of is_id false long_id text (λ e. absurd (cc (e, h)))

test_short : (test : List ℕ → Bool) → ((text : List ℕ) → 35 < length text → test text ≡ false) → (text : List ℕ) → not (test text) ≡ false → IsShort text
test_short test long text h = let yes_it_is = not_false (test text) h in short_of test false long text (λ e. absurd (cc (e, yes_it_is)))

none_short : {X : Type 0} (test : List ℕ → Option X) → ((text : List ℕ) → 35 < length text → test text ≡ None) → (text : List ℕ) → is_none (test text) ≡ false → IsShort text
none_short test long text h = short_of test None long text (λ e. let none = sym (ap is_none e) ∙ h in absurd (cc none))

paid_short : (text : List ℕ) → not (is_paid (cents_of text)) ≡ false → IsShort text
paid_short text h =
    let paid = not_false (is_paid (cents_of text)) h in
    short_of cents_of None long_cents text (λ e. let none = ap is_paid e in absurd (cc (none, paid)))

date_short : (text : List ℕ) → is_no_date (date_of_text text) ≡ false → IsShort text
date_short text h = short_of date_of_text (Err date_faults.Form) long_date text (λ e. let none = ap is_no_date e in absurd (cc (none, h)))

stop_short : (last : ℕ) (text : List ℕ) → not (is_next_stop last (time_of_text text)) ≡ false → IsShort text
stop_short last text h =
    let next = not_false (is_next_stop last (time_of_text text)) h in
    short_of time_of_text None long_time text (λ e. let none = ap (is_next_stop last) e in absurd (cc (none, next)))

empty_short : (text : List ℕ) → not (length text == 0) ≡ false → IsShort text
empty_short text h = let none = eqb-true (length text) 0 (not_false (length text == 0) h) in omega (arith, none)

-- a time that may be left out, and one after a label
stated_short : (text : List ℕ) → is_no_time (text_or_none text) ≡ false → IsShort text
stated_short [] h = omega arith
stated_short (c ∷ text) h = none_short time_of_text long_time (c ∷ text) h

labelled_short : (label text : List ℕ) → length label ≡ 5 → has_label label text ≡ true → is_no_time (text_behind label text) ≡ false → IsShort text
labelled_short label text five has h =
    let stated : is_none (time_of_text (drop (length label) text)) ≡ false = subst (λ b. is_no_time (if b then Some (drop (length label) text) else None) ≡ false) has h in
    none_short (λ t. time_of_text (drop 5 t)) long_labelled text (subst (λ n. is_none (time_of_text (drop n text)) ≡ false) five stated)

counted : (r : Fields) (n : ℕ) → not (length r == n) ≡ false → length r ≡ n
counted r n h = eqb-true (length r) n (not_false (length r == n) h)

-- ---- the times of a batch with labels

-- the field at a place that has this label
step_short : (label : List ℕ) (r : Fields) (i k : ℕ) (b : Bool) → length label ≡ 5 → has_label label (field r i) ≡ b → is_no_time (text_behind label (field r i)) ≡ false
    → i ≤ k → k < (if b then i + 1 else i) → IsShort (field r k)
step_short label r i k true five has h l m = let same : i ≡ k = omega (arith, l, m) in subst (λ (p : ℕ). IsShort (field r p)) same (labelled_short label (field r i) five has h)
step_short label r i k false five has h l m = absurd (omega (arith, l, m))

-- ---- each kind

module _ (s : SoFar) (r : Fields) (none : first_code s r ≡ None) where
  first_short : (kind : RecordKind) → kind_of r ≡ Some kind → IsShort (field r 0)
  first_short kind is = short_of kind_named None long_kind (field r 0) (λ e. absurd (cc (e, is)))

  ver_whole : kind_of r ≡ Some record_kinds.Ver → kept_row r ≡ r
  unfolding has_other_fields fields_in has_other_word
  ver_whole is =
      let f = fine record_kinds.Ver s r none is in
      row_whole r 2 (omega arith) (counted r 2 (fine_form record_kinds.Ver s r none is))
      (first_short record_kinds.Ver is, (test_short is_version_word long_version (field r 1) f.words, tt))

  day_whole : kind_of r ≡ Some record_kinds.Day → kept_row r ≡ r
  unfolding has_other_fields fields_in has_bad_date
  day_whole is =
      let f = fine record_kinds.Day s r none is in
      row_whole r 2 (omega arith) (counted r 2 (fine_form record_kinds.Day s r none is))
      (first_short record_kinds.Day is, (date_short (field r 1) f.dates, tt))

  system_whole : kind_of r ≡ Some record_kinds.As → kept_row r ≡ r
  unfolding has_other_fields fields_in has_other_word
  system_whole is =
      let f = fine record_kinds.As s r none is in
      row_whole r 3 (omega arith) (counted r 3 (fine_form record_kinds.As s r none is))
      (first_short record_kinds.As is, (name_short (field r 1) (names_hold record_kinds.As s r f).0, (test_short is_procedures long_procedures (field r 2) f.words, tt)))

  link_short : (kind : AccountKind) → is_unfit kind s r ≡ false → has_other_link kind r ≡ false → AllHold is_name (link_names kind r) → IsShort (field r 4)
  unfolding is_unfit has_other_link
  link_short account_kinds.Dca unfit other names = empty_short (field r 4) (or_neither (not (length (field r 4) == 0)) (is_system_name s.systems (field r 3)) unfit).0
  link_short account_kinds.Sub unfit other names = name_short (field r 4) names.0
  link_short account_kinds.Tech unfit other names = none_short technical_named long_technical (field r 4) other
  link_short account_kinds.Fund unfit other names = empty_short (field r 4) (or_neither (not (is_system_name s.systems (field r 3))) (not (length (field r 4) == 0)) unfit).1

  account_whole : kind_of r ≡ Some record_kinds.Acc → kept_row r ≡ r
  unfolding has_other_fields fields_in has_other_word has_bad_amount has_bad_setup
  account_whole is =
      let f = fine record_kinds.Acc s r none is in
      let names = names_hold record_kinds.Acc s r f in
      let words = or_neither (is_none (account_kind_named (field r 2))) (has_other_link (account_kind_in r) r) f.words in
      row_whole r 6 (omega arith) (counted r 6 (fine_form record_kinds.Acc s r none is)) (
        first_short record_kinds.Acc is,
        (
          name_short (field r 1) names.0,
          (
            none_short account_kind_named long_account_kind (field r 2) words.0,
            (name_short (field r 3) names.1.0, (link_short (account_kind_in r) f.setup words.1 names.1.1, (none_short cents_of long_cents (field r 5) f.amounts, tt))),
          ),
        ),
      )

  reserve_whole : kind_of r ≡ Some record_kinds.Res → kept_row r ≡ r
  unfolding has_other_fields fields_in has_bad_amount
  reserve_whole is =
      let f = fine record_kinds.Res s r none is in
      let both = or_neither (is_none (cents_of (field r 2))) (is_none (cents_of (field r 3))) f.amounts in
      let form : not (length r == 4) ≡ false = subst (λ b. (b && not (length r == 4)) ≡ false) (reserve_labels s r f) (fine_form record_kinds.Res s r none is) in
      row_whole r 4 (omega arith) (counted r 4 form)
      (first_short record_kinds.Res is, (name_short (field r 1) (names_hold record_kinds.Res s r f).0, (none_short cents_of long_cents (field r 2) both.0, (none_short cents_of long_cents (field r 3) both.1, tt))))

  entry_whole : kind_of r ≡ Some record_kinds.Ent → kept_row r ≡ r
  unfolding has_other_fields fields_in has_bad_amount
  entry_whole is =
      let f = fine record_kinds.Ent s r none is in
      let names = names_hold record_kinds.Ent s r f in
      row_whole r 4 (omega arith) (counted r 4 (fine_form record_kinds.Ent s r none is))
      (first_short record_kinds.Ent is, (name_short (field r 1) names.0, (name_short (field r 2) names.1.0, (paid_short (field r 3) f.amounts, tt))))

  payment_whole : kind_of r ≡ Some record_kinds.Pay → kept_row r ≡ r
  unfolding has_other_fields fields_in has_other_word has_bad_amount
  payment_whole is =
      let f = fine record_kinds.Pay s r none is in
      let names = names_hold record_kinds.Pay s r f in
      row_whole r 7 (omega arith) (counted r 7 (fine_form record_kinds.Pay s r none is)) (
        first_short record_kinds.Pay is,
        (
          name_short (field r 1) names.0,
          (
            id_short (field r 2) (ids_hold record_kinds.Pay s r f).0,
            (
              test_short is_priority long_priority (field r 3) f.words,
              (name_short (field r 4) names.1.0, (name_short (field r 5) names.1.1.0, (paid_short (field r 6) f.amounts, tt))),
            ),
          ),
        ),
      )

  transfer_whole : kind_of r ≡ Some record_kinds.Liq → kept_row r ≡ r
  unfolding has_other_fields fields_in has_bad_amount
  transfer_whole is =
      let f = fine record_kinds.Liq s r none is in
      let names = names_hold record_kinds.Liq s r f in
      row_whole r 6 (omega arith) (counted r 6 (fine_form record_kinds.Liq s r none is)) (
        first_short record_kinds.Liq is,
        (
          name_short (field r 1) names.0,
          (
            id_short (field r 2) (ids_hold record_kinds.Liq s r f).0,
            (
              name_short (field r 3) names.1.0,
              (name_short (field r 4) names.1.1.0, (paid_short (field r 5) f.amounts, tt)),
            ),
          ),
        ),
      )

  objection_whole : kind_of r ≡ Some record_kinds.Obj → kept_row r ≡ r
  unfolding has_other_fields fields_in
  objection_whole is =
      let f = fine record_kinds.Obj s r none is in
      let names = names_hold record_kinds.Obj s r f in
      let ids = ids_hold record_kinds.Obj s r f in
      row_whole r 5 (omega arith) (counted r 5 (fine_form record_kinds.Obj s r none is))
      (first_short record_kinds.Obj is, (name_short (field r 1) names.0, (id_short (field r 2) ids.0, (name_short (field r 3) names.1.0, (id_short (field r 4) ids.1.0, tt)))))

  answer_whole : kind_of r ≡ Some record_kinds.Cnf → kept_row r ≡ r
  unfolding has_other_fields fields_in has_other_word
  answer_whole is =
      let f = fine record_kinds.Cnf s r none is in
      let ids = ids_hold record_kinds.Cnf s r f in
      row_whole r 5 (omega arith) (counted r 5 (fine_form record_kinds.Cnf s r none is))
      (first_short record_kinds.Cnf is, (name_short (field r 1) (names_hold record_kinds.Cnf s r f).0, (id_short (field r 2) ids.0, (id_short (field r 3) ids.1.0, (test_short is_answer long_answer (field r 4) f.words, tt)))))

  cycle_whole : kind_of r ≡ Some record_kinds.Cyc → kept_row r ≡ r
  unfolding has_other_fields fields_in has_other_word
  cycle_whole is =
      let f = fine record_kinds.Cyc s r none is in
      row_whole r 4 (omega arith) (counted r 4 (fine_form record_kinds.Cyc s r none is))
      (first_short record_kinds.Cyc is, (name_short (field r 1) (names_hold record_kinds.Cyc s r f).0, (id_short (field r 2) (ids_hold record_kinds.Cyc s r f).0, (test_short is_cycle long_cycle (field r 3) f.words, tt))))

  stop_whole : kind_of r ≡ Some record_kinds.Tim → kept_row r ≡ r
  unfolding has_other_fields fields_in has_bad_time
  stop_whole is =
      let f = fine record_kinds.Tim s r none is in
      row_whole r 2 (omega arith) (counted r 2 (fine_form record_kinds.Tim s r none is))
      (first_short record_kinds.Tim is, (stop_short (last_stop s.stops) (field r 1) f.times, tt))

  end_whole : kind_of r ≡ Some record_kinds.End → kept_row r ≡ r
  unfolding has_other_fields fields_in
  end_whole is = row_whole r 1 (omega arith) (counted r 1 (fine_form record_kinds.End s r none is)) (first_short record_kinds.End is, tt)

  -- ---- a batch

  -- what both forms have
  module _ (is : kind_of r ≡ Some record_kinds.Bat) where
    batch_fine : IsFine record_kinds.Bat s r
    batch_fine = fine record_kinds.Bat s r none is

    sender_short : IsShort (field r 1)
    sender_short = name_short (field r 1) (names_hold record_kinds.Bat s r batch_fine).0

    own_short : IsShort (field r 2)
    own_short = id_short (field r 2) (ids_hold record_kinds.Bat s r batch_fine).0

    word_short : IsShort (field r 3)
    unfolding has_other_word
    word_short = none_short procedure_named long_procedure (field r 3) batch_fine.words

    count_short : IsShort (count_field s.version r)
    unfolding has_bad_number
    count_short = none_short count_of long_count (count_field s.version r) batch_fine.numbers

    sum_short : IsShort (sum_field s.version r)
    unfolding has_bad_amount
    sum_short = none_short cents_of long_cents (sum_field s.version r) batch_fine.amounts

    times_fine : (is_no_time (info_text s.version r) ≡ false) × (is_no_time (from_text s.version r) ≡ false) × (is_no_time (till_text s.version r) ≡ false)
    unfolding has_bad_time
    times_fine = neither (is_no_time (info_text s.version r)) (is_no_time (from_text s.version r)) (is_no_time (till_text s.version r)) batch_fine.times
      where
        neither : (a b c : Bool) → (a || b || c) ≡ false → (a ≡ false) × (b ≡ false) × (c ≡ false)
        neither false false false e = (refl, refl, refl)
        neither false false true e = cc e
        neither false true c e = cc e
        neither true b c e = cc e

    -- without labels
    plain_whole : has_labels s.version ≡ false → kept_row r ≡ r
    unfolding has_other_fields fields_in count_field sum_field info_text till_text
    plain_whole e =
        let form : not (length r == 8) ≡ false = subst (λ b. not (if b then has_stated_times r else length r == 8) ≡ false) e (fine_form record_kinds.Bat s r none is) in
        let info : is_no_time (text_or_none (field r 4)) ≡ false = subst (λ b. is_no_time (if b then text_behind info_label (field r 6) else text_or_none (field r 4)) ≡ false) e times_fine.0 in
        let till : is_no_time (text_or_none (field r 5)) ≡ false = subst (λ b. is_no_time (if b then text_behind till_label (field r (till_place r)) else text_or_none (field r 5)) ≡ false) e times_fine.2 in
        let count : IsShort (field r 6) = subst (λ b. IsShort (if b then field r 4 else field r 6)) e count_short in
        let sum : IsShort (field r 7) = subst (λ b. IsShort (if b then field r 5 else field r 7)) e sum_short in
        row_whole r 8 (omega arith) (counted r 8 form)
        (first_short record_kinds.Bat is, (sender_short, (own_short, (word_short, (stated_short (field r 4) info, (stated_short (field r 5) till, (count, (sum, tt))))))))

    -- with labels
    labelled_whole : has_labels s.version ≡ true → kept_row r ≡ r
    unfolding has_other_fields has_stated_times count_field sum_field info_text from_text till_text
    labelled_whole e =
        let form : not (has_stated_times r) ≡ false = subst (λ b. not (if b then has_stated_times r else length r == fields_in record_kinds.Bat) ≡ false) e (fine_form record_kinds.Bat s r none is) in
        let last : behind till_label r (till_place r) ≡ length r =
        eqb-true (behind till_label r (till_place r)) (length r)
        (second (nat_le 6 (length r)) (behind till_label r (till_place r) == length r) (not (states_from r && is_never_early (field r 3))) (not_false (has_stated_times r) form)) in
        let info : is_no_time (text_behind info_label (field r 6)) ≡ false = subst (λ b. is_no_time (if b then text_behind info_label (field r 6) else text_or_none (field r 4)) ≡ false) e times_fine.0 in
        let early : is_no_time (text_behind from_label (field r (from_place r))) ≡ false =
        subst (λ b. is_no_time (if b then text_behind from_label (field r (from_place r)) else None) ≡ false) e times_fine.1 in
        let till : is_no_time (text_behind till_label (field r (till_place r))) ≡ false =
        subst (λ b. is_no_time (if b then text_behind till_label (field r (till_place r)) else text_or_none (field r 5)) ≡ false) e times_fine.2 in
        let count : IsShort (field r 4) = subst (λ b. IsShort (if b then field r 4 else field r 6)) e count_short in
        let sum : IsShort (field r 5) = subst (λ b. IsShort (if b then field r 5 else field r 7)) e sum_short in
        let front : AreShort r 0 6 = (first_short record_kinds.Bat is, (sender_short, (own_short, (word_short, (count, (sum, tt)))))) in
        kept_all r (omega (arith, last, few_behind r))
        ∙ short_whole r (λ k l. elim (below k 6) [
          | inl low ↦ at_place r 0 6 front k (omega arith) (omega (arith, low))
          | inr six ↦ elim (below k (from_place r)) [
            | inl low ↦ step_short info_label r 6 k (has_label info_label (field r 6)) refl refl info six low
            | inr more ↦ elim (below k (till_place r)) [
              | inl low ↦ step_short from_label r (from_place r) k (has_label from_label (field r (from_place r))) refl refl early more low
              | inr most ↦ step_short till_label r (till_place r) k (has_label till_label (field r (till_place r))) refl refl till most (omega (arith, l, last))
            ]
          ]
        ])
      where
        second : (a b c : Bool) → (a && b && c) ≡ true → b ≡ true
        second true true c h = refl
        second true false c h = cc h
        second false b c h = cc h

    batch_whole : kept_row r ≡ r
    batch_whole = elim (cases_Bool (has_labels s.version)) [ inl e ↦ labelled_whole e | inr e ↦ plain_whole e ]

  whole_of : (kind : RecordKind) → kind_of r ≡ Some kind → kept_row r ≡ r
  whole_of record_kinds.Ver is = ver_whole is
  whole_of record_kinds.Day is = day_whole is
  whole_of record_kinds.As is = system_whole is
  whole_of record_kinds.Acc is = account_whole is
  whole_of record_kinds.Res is = reserve_whole is
  whole_of record_kinds.Bat is = batch_whole is
  whole_of record_kinds.Ent is = entry_whole is
  whole_of record_kinds.Pay is = payment_whole is
  whole_of record_kinds.Liq is = transfer_whole is
  whole_of record_kinds.Obj is = objection_whole is
  whole_of record_kinds.Cnf is = answer_whole is
  whole_of record_kinds.Cyc is = cycle_whole is
  whole_of record_kinds.Tim is = stop_whole is
  whole_of record_kinds.End is = end_whole is

-- a record without a code is kept whole
pub fine_whole : (s : SoFar) (r : Fields) → first_code s r ≡ None → kept_row r ≡ r
fine_whole s r e = let known = kind_known s r e in whole_of s r e known.0 known.1

-- ---- what a reader of rows tells of a record

pub row_fine : (s t : SoFar) (row r : Fields) → row ≡ kept_row r → (first_code s row ≡ None) × (t ≡ after s row) → (first_code s r ≡ None) × (t ≡ after s r)
row_fine s t row r is h =
    let none : first_code s r ≡ None = sym (kept_code s r) ∙ ap (first_code s) (sym is) ∙ h.0 in
    (none, h.1 ∙ ap (λ x. after s x) (is ∙ fine_whole s r none))

pub row_bad : (s : SoFar) (row r : Fields) (e : DayFault) (number : ℕ) → row ≡ kept_row r → FaultIs e number (first_code s row) → FaultIs e number (first_code s r)
row_bad s row r e number is h = subst (FaultIs e number) (ap (first_code s) is ∙ kept_code s r) h
