-- What is written in a field is read from it, and is plain.
use Rattle.std.proofs.Common.{◌≡◌, ◌<◌, ◌≤◌, ◌+◌, ◌-◌, ◌*◌, ◌/◌, ◌%◌, ◌^◌, ℕ, List, [], ◌∷◌, ◌++◌, Option, Some, None, Bool, true, false, not, length, refl, ap, arith, append_assoc, append-nil, ◌∙◌}
use Rattle.std.specs.Prelude.{◌&&◌, decimal, get_or, nat_le, nat_lt}
use Rattle.std.specs.List.{list_all, list_any}
use Rattle.std.specs.Str.Parse.{AllDigits}
use Rattle.std.proofs.lemmas.Fmt.{decimal_by_steps, decimal_is_IsNumeral}
use Rattle.std.proofs.lemmas.Grind.{common_steps}
use Rattle.std.proofs.lemmas.Str.Parse.{digit_from_value}
use Rattle.cash_amounts.specs.AmountText.{amount_text}
use Rattle.cash_amounts.specs.Names.{is_digit, is_id, is_id_byte, is_name, is_name_byte}
use Rattle.cash_amounts.specs.declared.cents.TheConstants.{MAX_CENTS}
use Rattle.cash_amounts.specs.declared.records.AccountKind.{AccountKind}
use Rattle.cash_amounts.specs.declared.records.AccountKind.TheVariants as account_kinds
use Rattle.cash_amounts.specs.declared.records.Procedure.{Procedure}
use Rattle.cash_amounts.specs.declared.records.Procedure.TheVariants as procedures
use Rattle.cash_amounts.proofs.AmountLemmas.{amount_text_is_amount}
use Rattle.period_calendar.specs.Calendar.{CivilDay}
use Rattle.period_calendar.specs.MomentTexts.{date_text}
use Rattle.period_calendar.specs.Times.{time_of_text}
use Rattle.period_calendar.specs.MomentTexts.{time_text}
use Rattle.period_calendar.specs.MomentTexts.{two_digits_text}
use Rattle.period_calendar.proofs.TimeLemmas.{time_text_reads}
use Rattle.batch_records.specs.Amounts.{amount_in, cents_of}
use Rattle.batch_records.specs.CountText.{count_in, count_of, with_digits}
use Rattle.batch_records.specs.DayTexts.{answer_word, cycle_word, kind_word, letter_if, priority_word, procedure_letters, procedure_word, time_or_empty}
use Rattle.batch_records.specs.Sound.{is_time_or_none}
use Rattle.batch_records.specs.Words.{account_kind_named, is_high, is_procedures, is_start, is_yes, listed, procedure_named, technical_named}
use Rattle.batch_records.proofs.AmountFacts.{amount_found}
use Rattle.batch_records.proofs.BoolFacts.{and_both, le_meant, lt_test}
use Rattle.batch_records.proofs.LineFacts.{is_mark, is_plain}

-- ---- plain fields

digit_plain : (d : ℕ) → d < 10 → not (is_mark (48 + d)) ≡ true
digit_plain d h = grind (arith, common_steps)

byte_plain : (c : ℕ) → 48 ≤ c → c ≤ 57 → not (is_mark c) ≡ true
byte_plain c low high = grind (arith, common_steps)

name_byte_plain : (c : ℕ) → is_name_byte c ≡ true → not (is_mark c) ≡ true
name_byte_plain c e = grind (arith, common_steps, e)

id_byte_plain : (c : ℕ) → is_id_byte c ≡ true → not (is_mark c) ≡ true
id_byte_plain c e = grind (arith, common_steps, e)

all_plain : (p : ℕ → Bool) → ((c : ℕ) → p c ≡ true → not (is_mark c) ≡ true) → (x : List ℕ) → list_all p x ≡ true → is_plain x ≡ true
all_plain p h [] all = refl
all_plain p h (c ∷ x) all = let both = and_both (p c) (list_all p x) all in rw (h c both.0, all_plain p h x both.1) refl

pub name_plain : (x : List ℕ) → is_name x ≡ true → is_plain x ≡ true
name_plain x e = all_plain is_name_byte name_byte_plain x (and_both (nat_lt 0 (length x) && nat_le (length x) 34) (list_all is_name_byte x) e).1

pub id_plain : (x : List ℕ) → is_id x ≡ true → is_plain x ≡ true
id_plain x e = all_plain is_id_byte id_byte_plain x (and_both (nat_lt 0 (length x) && nat_le (length x) 35) (list_all is_id_byte x) e).1

pub plain_append : (x y : List ℕ) → is_plain x ≡ true → is_plain y ≡ true → is_plain (x ++ y) ≡ true
plain_append [] y a b = b
plain_append (c ∷ x) y a b = let both = and_both (not (is_mark c)) (is_plain x) a in rw (both.0, plain_append x y both.1 b) refl

digits_plain : (x : List ℕ) → AllDigits 10 x → is_plain x ≡ true
digits_plain [] d = refl
digits_plain (c ∷ x) d = let r = digit_from_value c d.0 in rw (byte_plain c r.0 r.1, digits_plain x d.1) refl

pub decimal_plain : (n : ℕ) → n < 2 ^ 64 → is_plain (decimal n) ≡ true
decimal_plain n small = digits_plain (decimal n) (decimal_is_IsNumeral n small).0.1

pub amount_plain : (n : ℕ) → n ≤ MAX_CENTS → is_plain (amount_text n) ≡ true
amount_plain n small =
    plain_append (decimal (n / 100)) (46 ∷ (48 + n / 10 % 10) ∷ (48 + n % 10) ∷ []) (decimal_plain (n / 100) (omega arith))
    (rw (digit_plain (n / 10 % 10) (omega arith), digit_plain (n % 10) (omega arith)) refl)

two_plain : (n : ℕ) → is_plain (two_digits_text n) ≡ true
two_plain n = rw (digit_plain (n / 10 % 10) (omega arith), digit_plain (n % 10) (omega arith)) refl

pub time_plain : (t : ℕ) → is_plain (time_text t) ≡ true
time_plain t =
    plain_append (two_digits_text (t / 3600)) (58 ∷ two_digits_text (t / 60 % 60) ++ 58 ∷ two_digits_text (t % 60)) (two_plain (t / 3600))
    (plain_append (58 ∷ two_digits_text (t / 60 % 60)) (58 ∷ two_digits_text (t % 60)) (two_plain (t / 60 % 60)) (two_plain (t % 60)))

pub time_or_empty_plain : (o : Option ℕ) → is_plain (time_or_empty o) ≡ true
time_or_empty_plain None = refl
time_or_empty_plain (Some t) = time_plain t

pub date_plain : (date : CivilDay) → is_plain (date_text date) ≡ true
date_plain date =
    plain_append (two_digits_text (date.year / 100)) (two_digits_text date.year ++ 45 ∷ two_digits_text date.month ++ 45 ∷ two_digits_text date.day) (two_plain (date.year / 100))
    (plain_append (two_digits_text date.year) (45 ∷ two_digits_text date.month ++ 45 ∷ two_digits_text date.day) (two_plain date.year)
    (plain_append (45 ∷ two_digits_text date.month) (45 ∷ two_digits_text date.day) (two_plain date.month) (two_plain date.day)))

pub kind_plain : (k : AccountKind) → is_plain (kind_word k) ≡ true
kind_plain account_kinds.Dca = refl
kind_plain account_kinds.Sub = refl
kind_plain account_kinds.Tech = refl
kind_plain account_kinds.Fund = refl

pub procedure_plain : (p : Procedure) → is_plain (procedure_word p) ≡ true
procedure_plain procedures.A = refl
procedure_plain procedures.B = refl
procedure_plain procedures.C = refl
procedure_plain procedures.D = refl
procedure_plain procedures.E = refl

letter_plain : (b : Bool) (d : ℕ) → not (is_mark d) ≡ true → is_plain (letter_if b d) ≡ true
letter_plain true d e = rw e refl
letter_plain false d e = refl

pub letters_plain : (ps : List Bool) → is_plain (procedure_letters ps) ≡ true
unfolding procedure_letters
letters_plain ps =
    let a = letter_if (get_or ps 0 false) 65 in
    let b = letter_if (get_or ps 1 false) 66 in
    let c = letter_if (get_or ps 2 false) 67 in
    let d = letter_if (get_or ps 3 false) 68 in
    let e = letter_if (get_or ps 4 false) 69 in
    plain_append (a ++ b ++ c ++ d) e
    (plain_append (a ++ b ++ c) d (plain_append (a ++ b) c (plain_append a b (letter_plain (get_or ps 0 false) 65 refl) (letter_plain (get_or ps 1 false) 66 refl)) (letter_plain (get_or ps 2 false) 67 refl))
    (letter_plain (get_or ps 3 false) 68 refl))
    (letter_plain (get_or ps 4 false) 69 refl)

pub priority_plain : (b : Bool) → is_plain (priority_word b) ≡ true
priority_plain true = refl
priority_plain false = refl

pub answer_plain : (b : Bool) → is_plain (answer_word b) ≡ true
answer_plain true = refl
answer_plain false = refl

pub cycle_plain : (b : Bool) → is_plain (cycle_word b) ≡ true
cycle_plain true = refl
cycle_plain false = refl

-- ---- what is read from a field

pub amount_reads : (n : ℕ) → n ≤ MAX_CENTS → cents_of (amount_text n) ≡ Some n
amount_reads n small = amount_found (amount_text n) n (amount_text_is_amount n small)

pub amount_back : (n : ℕ) → n ≤ MAX_CENTS → amount_in (amount_text n) ≡ n
amount_back n small = rw (amount_reads n small) refl

pub time_reads : (t : ℕ) → t ≤ 86400 → time_of_text (time_text t) ≡ Some t
time_reads t h = time_text_reads t h

pub time_or_empty_reads : (o : Option ℕ) → is_time_or_none o ≡ true → time_of_text (time_or_empty o) ≡ o
unfolding time_of_text
time_or_empty_reads None e = refl
time_or_empty_reads (Some t) e = time_text_reads t (le_meant t 86400 e)

pub kind_reads : (k : AccountKind) → account_kind_named (kind_word k) ≡ Some k
unfolding account_kind_named
kind_reads account_kinds.Dca = refl
kind_reads account_kinds.Sub = refl
kind_reads account_kinds.Tech = refl
kind_reads account_kinds.Fund = refl

pub procedure_reads : (p : Procedure) → procedure_named (procedure_word p) ≡ Some p
unfolding procedure_named technical_named
procedure_reads procedures.A = refl
procedure_reads procedures.B = refl
procedure_reads procedures.C = refl
procedure_reads procedures.D = refl
procedure_reads procedures.E = refl

pub priority_reads : (b : Bool) → is_high (priority_word b) ≡ b
priority_reads true = refl
priority_reads false = refl

pub answer_reads : (b : Bool) → is_yes (answer_word b) ≡ b
answer_reads true = refl
answer_reads false = refl

pub cycle_reads : (b : Bool) → is_start (cycle_word b) ≡ b
cycle_reads true = refl
cycle_reads false = refl

-- ---- counts

-- digits make a number of at most seven digits, and none of more
abbrev Counts : ℕ → List ℕ → Type 0
Counts n digits = (n < 10000000 → (tail : List ℕ) → count_of (digits ++ tail) ≡ with_digits n tail) × (10000000 ≤ n → (tail : List ℕ) → count_of (digits ++ tail) ≡ None)

digit_test : (d : ℕ) → d < 10 → is_digit (48 + d) ≡ true
digit_test d h = grind (arith, common_steps)

one_digit : (n : ℕ) → n < 10 → Counts n ((48 + n) ∷ [])
unfolding count_of
one_digit n small =
    let back : 48 + n - 48 ≡ n = omega arith in
    (λ few tail. rw (digit_test n small, back) refl, λ many. absurd (omega arith))

no_eighth : (n c : ℕ) (tail : List ℕ) → 1000000 ≤ n → with_digits n (c ∷ tail) ≡ None
no_eighth n c tail many =
    let past : (nat_lt 0 n && nat_lt n 1000000) ≡ false = grind (arith, common_steps) in
    rw past refl

one_more : (n d : ℕ) (tail : List ℕ) → 0 < n → n < 1000000 → d < 10 → with_digits n ((48 + d) ∷ tail) ≡ with_digits (10 * n + d) tail
one_more n d tail some few digit =
    let back : 48 + d - 48 ≡ d = omega arith in
    rw (lt_test 0 n some, lt_test n 1000000 few, digit_test d digit, back) refl

more_digits : (n : ℕ) (digits : List ℕ) → 10 ≤ n → Counts (n / 10) digits → Counts n (digits ++ ((48 + n % 10) ∷ []))
more_digits n digits large h =
    let whole : 10 * (n / 10) + n % 10 ≡ n = omega arith in (
      λ few tail.
          rw (append_assoc digits ((48 + n % 10) ∷ []) tail)
          (h.0 (omega arith) ((48 + n % 10) ∷ tail) ∙ one_more (n / 10) (n % 10) tail (omega arith) (omega arith) (omega arith) ∙ ap (λ (m : ℕ). with_digits m tail) whole),
      λ many tail.
          rw (append_assoc digits ((48 + n % 10) ∷ []) tail)
          (more_none (n / 10) (omega arith) digits ((48 + n % 10)) tail h),
    )
  where
    more_none : (m : ℕ) → 1000000 ≤ m → (digits : List ℕ) (c : ℕ) (tail : List ℕ) → Counts m digits → count_of (digits ++ (c ∷ tail)) ≡ None
    more_none m many digits c tail h =
        (elim (nat_lt m 10000000) as (λ b. nat_lt m 10000000 ≡ b → count_of (digits ++ (c ∷ tail)) ≡ None) [
          | true ↦ λ e. h.0 (grind (arith, common_steps, e)) (c ∷ tail) ∙ no_eighth m c tail many
          | false ↦ λ e. h.1 (grind (arith, common_steps, e)) (c ∷ tail)
        ]) refl

counts : (n : ℕ) → n < 2 ^ 64 → Counts n (decimal n)
counts = decimal_by_steps Counts one_digit more_digits

pub count_reads : (n : ℕ) → n < 10000000 → count_of (decimal n) ≡ Some n
count_reads n few = rw (← append-nil (decimal n)) ((counts n (omega arith)).0 few [])

pub count_back : (n : ℕ) → n < 10000000 → count_in (decimal n) ≡ n
count_back n few = rw (count_reads n few) refl

pub count_never : (n : ℕ) → 10000000 ≤ n → n < 2 ^ 64 → count_of (decimal n) ≡ None
count_never n many small = rw (← append-nil (decimal n)) ((counts n small).1 many [])

-- ---- the letters of a system

letters_read : (a b c d e : Bool) → listed (procedure_letters (a ∷ b ∷ c ∷ d ∷ e ∷ [])) ≡ a ∷ b ∷ c ∷ d ∷ e ∷ []
unfolding listed procedure_letters
letters_read true true true true true = refl
letters_read true true true true false = refl
letters_read true true true false true = refl
letters_read true true true false false = refl
letters_read true true false true true = refl
letters_read true true false true false = refl
letters_read true true false false true = refl
letters_read true true false false false = refl
letters_read true false true true true = refl
letters_read true false true true false = refl
letters_read true false true false true = refl
letters_read true false true false false = refl
letters_read true false false true true = refl
letters_read true false false true false = refl
letters_read true false false false true = refl
letters_read true false false false false = refl
letters_read false true true true true = refl
letters_read false true true true false = refl
letters_read false true true false true = refl
letters_read false true true false false = refl
letters_read false true false true true = refl
letters_read false true false true false = refl
letters_read false true false false true = refl
letters_read false true false false false = refl
letters_read false false true true true = refl
letters_read false false true true false = refl
letters_read false false true false true = refl
letters_read false false true false false = refl
letters_read false false false true true = refl
letters_read false false false true false = refl
letters_read false false false false true = refl
letters_read false false false false false = refl

letters_rise : (a b c d e : Bool) → list_any (λ listed. listed) (a ∷ b ∷ c ∷ d ∷ e ∷ []) ≡ true → is_procedures (procedure_letters (a ∷ b ∷ c ∷ d ∷ e ∷ [])) ≡ true
unfolding is_procedures procedure_letters
letters_rise true true true true true some = refl
letters_rise true true true true false some = refl
letters_rise true true true false true some = refl
letters_rise true true true false false some = refl
letters_rise true true false true true some = refl
letters_rise true true false true false some = refl
letters_rise true true false false true some = refl
letters_rise true true false false false some = refl
letters_rise true false true true true some = refl
letters_rise true false true true false some = refl
letters_rise true false true false true some = refl
letters_rise true false true false false some = refl
letters_rise true false false true true some = refl
letters_rise true false false true false some = refl
letters_rise true false false false true some = refl
letters_rise true false false false false some = refl
letters_rise false true true true true some = refl
letters_rise false true true true false some = refl
letters_rise false true true false true some = refl
letters_rise false true true false false some = refl
letters_rise false true false true true some = refl
letters_rise false true false true false some = refl
letters_rise false true false false true some = refl
letters_rise false true false false false some = refl
letters_rise false false true true true some = refl
letters_rise false false true true false some = refl
letters_rise false false true false true some = refl
letters_rise false false true false false some = refl
letters_rise false false false true true some = refl
letters_rise false false false true false some = refl
letters_rise false false false false true some = refl
letters_rise false false false false false some = cc some

pub letters_back : (ps : List Bool) → length ps ≡ 5 → listed (procedure_letters ps) ≡ ps
letters_back [] five = absurd (omega arith)
letters_back (a ∷ []) five = absurd (omega arith)
letters_back (a ∷ b ∷ []) five = absurd (omega arith)
letters_back (a ∷ b ∷ c ∷ []) five = absurd (omega arith)
letters_back (a ∷ b ∷ c ∷ d ∷ []) five = absurd (omega arith)
letters_back (a ∷ b ∷ c ∷ d ∷ e ∷ []) five = letters_read a b c d e
letters_back (a ∷ b ∷ c ∷ d ∷ e ∷ f ∷ ps) five = absurd (omega arith)

pub letters_are : (ps : List Bool) → length ps ≡ 5 → list_any (λ listed. listed) ps ≡ true → is_procedures (procedure_letters ps) ≡ true
letters_are [] five some = absurd (omega arith)
letters_are (a ∷ []) five some = absurd (omega arith)
letters_are (a ∷ b ∷ []) five some = absurd (omega arith)
letters_are (a ∷ b ∷ c ∷ []) five some = absurd (omega arith)
letters_are (a ∷ b ∷ c ∷ d ∷ []) five some = absurd (omega arith)
letters_are (a ∷ b ∷ c ∷ d ∷ e ∷ []) five some = letters_rise a b c d e some
letters_are (a ∷ b ∷ c ∷ d ∷ e ∷ f ∷ ps) five some = absurd (omega arith)
