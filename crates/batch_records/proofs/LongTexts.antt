-- Texts that are too long for what a field of a record has to be.
use Rattle.std.proofs.Common.{◌≡◌, ◌∙◌, ◌+◌, ◌-◌, ◌*◌, ◌<◌, ◌≤◌, ℕ, zero, suc, Bool, true, false, not, List, [], ◌∷◌, Option, Some, None, length, drop, refl, ap, arith}
use Rattle.std.specs.Prelude.{◌==◌, ◌&&◌, ◌||◌, Err, if◌then◌else◌, nat_eq, nat_le, nat_lt, bytes_eq, codes}
use Rattle.std.specs.List.{list_all}
use Rattle.std.proofs.lemmas.Grind.{common_steps}
use Rattle.std.proofs.lemmas.List.{length-drop}
use Rattle.std.proofs.lemmas.Option.{same_Some}
use Rattle.cash_amounts.specs.Names.{is_digit, is_id, is_id_byte, is_name, is_name_byte}
use Rattle.cash_amounts.specs.declared.cents.TheConstants.{MAX_CENTS}
use Rattle.period_calendar.specs.Dates.{date_of_text, date_parts}
use Rattle.period_calendar.specs.Times.{time_of_text}
use Rattle.period_calendar.specs.declared.date.DateFault.TheVariants as date_faults
use Rattle.batch_records.specs.Amounts.{cents_of, with_euros, with_tenths, with_units, within_largest}
use Rattle.batch_records.specs.CountText.{count_of, with_digits}
use Rattle.batch_records.specs.Kinds.{kind_named}
use Rattle.batch_records.specs.Versions.{is_never_early}
use Rattle.batch_records.specs.Words.{account_kind_named, is_answer, is_cycle, is_priority, is_procedures, is_version_word, procedure_named, rises_from, technical_named}
use Rattle.batch_records.proofs.BoolFacts.{le_meant, lt_meant}

-- ---- tests

le_false : (a b : ℕ) → b < a → nat_le a b ≡ false
le_false a b h = grind (arith, common_steps)

lt_false : (a b : ℕ) → b ≤ a → nat_lt a b ≡ false
lt_false a b h = grind (arith, common_steps)

middle : (a b c : Bool) → b ≡ false → (a && b && c) ≡ false
middle true b c e = rw e refl
middle false b c e = refl

and_none : (a : Bool) → (a && false) ≡ false
and_none true = refl
and_none false = refl

-- ---- words

pub long_word : (w text : List ℕ) → length w < length text → bytes_eq text w ≡ false
long_word [] [] l = absurd (omega (arith, l))
long_word [] (x ∷ text) l = refl
long_word (y ∷ w) [] l = absurd (omega (arith, l))
long_word (y ∷ w) (x ∷ text) l = ap (λ b. nat_eq x y && b) (long_word w text (omega (arith, l))) ∙ and_none (nat_eq x y)

-- a text of more than five bytes is no word of at most five
word : (text w : List ℕ) → 5 < length text → length w ≤ 5 → bytes_eq text w ≡ false
word text w l few = long_word w text (omega (arith, l, few))

pub long_kind : (text : List ℕ) → 35 < length text → kind_named text ≡ None
unfolding kind_named
long_kind text l =
    let m : 5 < length text = omega (arith, l) in
    rw (
      word text (codes "VER") m (omega arith),
      word text (codes "DAY") m (omega arith),
      word text (codes "AS") m (omega arith),
      word text (codes "ACC") m (omega arith),
      word text (codes "BAT") m (omega arith),
      word text (codes "ENT") m (omega arith),
      word text (codes "PAY") m (omega arith),
      word text (codes "LIQ") m (omega arith),
      word text (codes "OBJ") m (omega arith),
      word text (codes "CNF") m (omega arith),
      word text (codes "CYC") m (omega arith),
      word text (codes "TIM") m (omega arith),
      word text (codes "END") m (omega arith),
      word text (codes "RES") m (omega arith),
    ) refl

pub long_version : (text : List ℕ) → 35 < length text → is_version_word text ≡ false
long_version text l = let m : 5 < length text = omega (arith, l) in rw (word text (codes "2") m (omega arith), word text (codes "3") m (omega arith)) refl

pub long_account_kind : (text : List ℕ) → 35 < length text → account_kind_named text ≡ None
unfolding account_kind_named
long_account_kind text l =
    let m : 5 < length text = omega (arith, l) in
    rw (word text (codes "DCA") m (omega arith), word text (codes "SUB") m (omega arith), word text (codes "TEC") m (omega arith), word text (codes "FND") m (omega arith)) refl

pub long_technical : (text : List ℕ) → 35 < length text → technical_named text ≡ None
unfolding technical_named
long_technical text l =
    let m : 5 < length text = omega (arith, l) in
    rw (word text (codes "A") m (omega arith), word text (codes "B") m (omega arith), word text (codes "C") m (omega arith), word text (codes "D") m (omega arith)) refl

pub long_procedure : (text : List ℕ) → 35 < length text → procedure_named text ≡ None
unfolding procedure_named
long_procedure text l = let m : 5 < length text = omega (arith, l) in rw (word text (codes "E") m (omega arith)) (long_technical text l)

pub long_priority : (text : List ℕ) → 35 < length text → is_priority text ≡ false
long_priority text l = let m : 5 < length text = omega (arith, l) in rw (word text (codes "H") m (omega arith), word text (codes "N") m (omega arith)) refl

pub long_answer : (text : List ℕ) → 35 < length text → is_answer text ≡ false
long_answer text l = let m : 5 < length text = omega (arith, l) in rw (word text (codes "Y") m (omega arith), word text (codes "N") m (omega arith)) refl

pub long_cycle : (text : List ℕ) → 35 < length text → is_cycle text ≡ false
long_cycle text l = let m : 5 < length text = omega (arith, l) in rw (word text (codes "START") m (omega arith), word text (codes "END") m (omega arith)) refl

pub long_never_early : (text : List ℕ) → 35 < length text → is_never_early text ≡ false
long_never_early text l =
    let m : 5 < length text = omega (arith, l) in
    rw (word text (codes "C") m (omega arith), word text (codes "D") m (omega arith), word text (codes "E") m (omega arith)) refl

-- letters that rise up to E are at most five
rise_short : (before : ℕ) (text : List ℕ) → before ≤ 69 → rises_from before text ≡ true → length text + before ≤ 69
rise_short before [] few e = omega (arith, few)
rise_short before (c ∷ text) few e =
    let tests = both (nat_lt before c) (nat_le c 69) (rises_from c text) e in
    let above : before < c = lt_meant before c tests.0 in
    let within : c ≤ 69 = le_meant c 69 tests.1 in
    let more = rise_short c text within tests.2 in
    omega (arith, above, more)
  where
    both : (a b c : Bool) → (a && b && c) ≡ true → (a ≡ true) × (b ≡ true) × (c ≡ true)
    both true true true e = (refl, refl, refl)
    both true true false e = cc e
    both true false c e = cc e
    both false b c e = cc e

pub long_procedures : (text : List ℕ) → 35 < length text → is_procedures text ≡ false
unfolding is_procedures
long_procedures text l = by (rises_from 64 text) refl
  where
    by : (b : Bool) → rises_from 64 text ≡ b → (not (length text == 0) && rises_from 64 text) ≡ false
    by true e = let few = rise_short 64 text (omega arith) e in absurd (omega (arith, l, few))
    by false e = ap (λ b. not (length text == 0) && b) e ∙ and_none (not (length text == 0))

-- ---- names and identifications

pub long_name : (text : List ℕ) → 35 < length text → is_name text ≡ false
long_name text l = middle (nat_lt 0 (length text)) (nat_le (length text) 34) (list_all is_name_byte text) (le_false (length text) 34 (omega (arith, l)))

pub long_id : (text : List ℕ) → 35 < length text → is_id text ≡ false
long_id text l = middle (nat_lt 0 (length text)) (nat_le (length text) 35) (list_all is_id_byte text) (le_false (length text) 35 l)

-- ---- numbers

-- a number with so many zeros more
abbrev times_ten : ℕ → ℕ → ℕ
times_ten zero n = n
times_ten (suc k) n = times_ten k (10 * n)

times_more : (k a b : ℕ) → a ≤ b → times_ten k a ≤ times_ten k b
times_more zero a b l = l
times_more (suc k) a b l = times_more k (10 * a) (10 * b) (omega (arith, l))

least_units : (cents : ℕ) (text : List ℕ) (n : ℕ) → with_units cents text ≡ Some n → cents ≤ n
least_units cents [] n e = cc e
least_units cents (u ∷ []) n e = by (is_digit u) e
  where
    by : (b : Bool) → (if b then Some (cents + (u - 48)) else None) ≡ Some n → cents ≤ n
    by true e = let same = same_Some _ _ e in omega (arith, same)
    by false e = cc e
least_units cents (u ∷ v ∷ text) n e = cc e

least_tenths : (cents : ℕ) (text : List ℕ) (n : ℕ) → with_tenths cents text ≡ Some n → cents ≤ n
least_tenths cents [] n e = cc e
least_tenths cents (t ∷ text) n e = by (is_digit t) e
  where
    by : (b : Bool) → (if b then with_units (cents + 10 * (t - 48)) text else None) ≡ Some n → cents ≤ n
    by true e = let more = least_units (cents + 10 * (t - 48)) text n e in omega (arith, more)
    by false e = cc e

least_euros : (euros : ℕ) (text : List ℕ) (n : ℕ) → with_euros euros text ≡ Some n → 100 * euros ≤ n
least_euros euros [] n e = cc e
least_euros euros (c ∷ text) n e = by (c == 46) (nat_lt 0 euros && is_digit c) e (least_euros (10 * euros + (c - 48)) text n)
  where
    by : (stop more : Bool) → (if stop then with_tenths (100 * euros) text else (if more then with_euros (10 * euros + (c - 48)) text else None)) ≡ Some n
        → (with_euros (10 * euros + (c - 48)) text ≡ Some n → 100 * (10 * euros + (c - 48)) ≤ n) → 100 * euros ≤ n
    by true more e h = least_tenths (100 * euros) text n e
    by false true e h = let least = h e in omega (arith, least)
    by false false e h = cc e

long_tenths : (cents : ℕ) (text : List ℕ) → 3 ≤ length text → with_tenths cents text ≡ None
long_tenths cents [] l = absurd (omega (arith, l))
long_tenths cents (t ∷ []) l = absurd (omega (arith, l))
long_tenths cents (t ∷ u ∷ []) l = absurd (omega (arith, l))
long_tenths cents (t ∷ u ∷ v ∷ text) l = by (is_digit t)
  where
    by : (b : Bool) → (if b then with_units (cents + 10 * (t - 48)) (u ∷ v ∷ text) else None) ≡ None
    by true = refl
    by false = refl

large : (o : Option ℕ) → ((m : ℕ) → o ≡ Some m → MAX_CENTS < m) → within_largest o ≡ None
large None h = refl
large (Some m) h = ap (λ b. if b then Some m else None) (le_false m MAX_CENTS (h m refl))

long_euros : (k n : ℕ) (text : List ℕ) → MAX_CENTS < 100 * times_ten k n → k + 3 ≤ length text → within_largest (with_euros n text) ≡ None
long_euros zero n text h l = large (with_euros n text) (λ m e. let least = least_euros n text m e in omega (arith, h, least))
long_euros (suc k) n [] h l = absurd (omega (arith, l))
long_euros (suc k) n (c ∷ text) h l =
    let more = times_more k (10 * n) (10 * n + (c - 48)) (omega arith) in
    by (c == 46) (nat_lt 0 n && is_digit c) (long_euros k (10 * n + (c - 48)) text (omega (arith, h, more)) (omega (arith, l)))
  where
    by : (stop next : Bool) → within_largest (with_euros (10 * n + (c - 48)) text) ≡ None
        → within_largest (if stop then with_tenths (100 * n) text else (if next then with_euros (10 * n + (c - 48)) text else None)) ≡ None
    by true next e = ap within_largest (long_tenths (100 * n) text (omega (arith, l)))
    by false true e = e
    by false false e = refl

-- after the first digit
euros_from : (n : ℕ) (text : List ℕ) → 35 ≤ length text → within_largest (with_euros n text) ≡ None
euros_from n [] l = absurd (omega (arith, l))
euros_from zero (c ∷ text) l = by (c == 46)
  where
    by : (stop : Bool) → within_largest (if stop then with_tenths 0 text else None) ≡ None
    by true = ap within_largest (long_tenths 0 text (omega (arith, l)))
    by false = refl
euros_from (suc n) (c ∷ text) l =
    let least = times_more 32 1 (suc n) (omega arith) in
    long_euros 32 (suc n) (c ∷ text) (omega (arith, least)) (omega (arith, l))

pub long_cents : (text : List ℕ) → 35 < length text → cents_of text ≡ None
unfolding cents_of
long_cents [] l = absurd (omega (arith, l))
long_cents (c ∷ text) l = by (is_digit c)
  where
    by : (b : Bool) → within_largest (if b then with_euros (c - 48) text else None) ≡ None
    by true = euros_from (c - 48) text (omega (arith, l))
    by false = refl

long_digits : (k n : ℕ) (text : List ℕ) → 1000000 ≤ times_ten k n → k < length text → with_digits n text ≡ None
long_digits k n [] h l = absurd (omega (arith, l))
long_digits zero n (c ∷ text) h l =
    ap (λ b. if b then with_digits (10 * n + (c - 48)) text else None) (middle (nat_lt 0 n) (nat_lt n 1000000) (is_digit c) (lt_false n 1000000 h))
long_digits (suc k) n (c ∷ text) h l =
    let more = times_more k (10 * n) (10 * n + (c - 48)) (omega arith) in
    by (nat_lt 0 n && nat_lt n 1000000 && is_digit c) (long_digits k (10 * n + (c - 48)) text (omega (arith, h, more)) (omega (arith, l)))
  where
    by : (b : Bool) → with_digits (10 * n + (c - 48)) text ≡ None → (if b then with_digits (10 * n + (c - 48)) text else None) ≡ None
    by true e = e
    by false e = refl

digits_from : (n : ℕ) (text : List ℕ) → 35 ≤ length text → with_digits n text ≡ None
digits_from n [] l = absurd (omega (arith, l))
digits_from zero (c ∷ text) l = refl
digits_from (suc n) (c ∷ text) l = let least = times_more 6 1 (suc n) (omega arith) in long_digits 6 (suc n) (c ∷ text) (omega (arith, least)) (omega (arith, l))

pub long_count : (text : List ℕ) → 35 < length text → count_of text ≡ None
unfolding count_of
long_count [] l = absurd (omega (arith, l))
long_count (c ∷ text) l = by (is_digit c)
  where
    by : (b : Bool) → (if b then with_digits (c - 48) text else None) ≡ None
    by true = digits_from (c - 48) text (omega (arith, l))
    by false = refl

-- ---- times and dates

longer_time : (text : List ℕ) → 8 < length text → time_of_text text ≡ None
unfolding time_of_text
longer_time [] l = absurd (omega (arith, l))
longer_time (x1 ∷ []) l = absurd (omega (arith, l))
longer_time (x1 ∷ x2 ∷ []) l = absurd (omega (arith, l))
longer_time (x1 ∷ x2 ∷ x3 ∷ []) l = absurd (omega (arith, l))
longer_time (x1 ∷ x2 ∷ x3 ∷ x4 ∷ []) l = absurd (omega (arith, l))
longer_time (x1 ∷ x2 ∷ x3 ∷ x4 ∷ x5 ∷ []) l = absurd (omega (arith, l))
longer_time (x1 ∷ x2 ∷ x3 ∷ x4 ∷ x5 ∷ x6 ∷ []) l = absurd (omega (arith, l))
longer_time (x1 ∷ x2 ∷ x3 ∷ x4 ∷ x5 ∷ x6 ∷ x7 ∷ []) l = absurd (omega (arith, l))
longer_time (x1 ∷ x2 ∷ x3 ∷ x4 ∷ x5 ∷ x6 ∷ x7 ∷ x8 ∷ []) l = absurd (omega (arith, l))
longer_time (x1 ∷ x2 ∷ x3 ∷ x4 ∷ x5 ∷ x6 ∷ x7 ∷ x8 ∷ x9 ∷ rest) l = refl

pub long_time : (text : List ℕ) → 35 < length text → time_of_text text ≡ None
long_time text l = longer_time text (omega (arith, l))

-- after a label
pub long_labelled : (text : List ℕ) → 35 < length text → time_of_text (drop 5 text) ≡ None
long_labelled text l = longer_time (drop 5 text) (omega (arith, l, length-drop 5 text))

longer_date : (text : List ℕ) → 10 < length text → date_parts text ≡ None
unfolding date_parts
longer_date [] l = absurd (omega (arith, l))
longer_date (x1 ∷ []) l = absurd (omega (arith, l))
longer_date (x1 ∷ x2 ∷ []) l = absurd (omega (arith, l))
longer_date (x1 ∷ x2 ∷ x3 ∷ []) l = absurd (omega (arith, l))
longer_date (x1 ∷ x2 ∷ x3 ∷ x4 ∷ []) l = absurd (omega (arith, l))
longer_date (x1 ∷ x2 ∷ x3 ∷ x4 ∷ x5 ∷ []) l = absurd (omega (arith, l))
longer_date (x1 ∷ x2 ∷ x3 ∷ x4 ∷ x5 ∷ x6 ∷ []) l = absurd (omega (arith, l))
longer_date (x1 ∷ x2 ∷ x3 ∷ x4 ∷ x5 ∷ x6 ∷ x7 ∷ []) l = absurd (omega (arith, l))
longer_date (x1 ∷ x2 ∷ x3 ∷ x4 ∷ x5 ∷ x6 ∷ x7 ∷ x8 ∷ []) l = absurd (omega (arith, l))
longer_date (x1 ∷ x2 ∷ x3 ∷ x4 ∷ x5 ∷ x6 ∷ x7 ∷ x8 ∷ x9 ∷ []) l = absurd (omega (arith, l))
longer_date (x1 ∷ x2 ∷ x3 ∷ x4 ∷ x5 ∷ x6 ∷ x7 ∷ x8 ∷ x9 ∷ x10 ∷ []) l = absurd (omega (arith, l))
longer_date (x1 ∷ x2 ∷ x3 ∷ x4 ∷ x5 ∷ x6 ∷ x7 ∷ x8 ∷ x9 ∷ x10 ∷ x11 ∷ rest) l = refl

pub long_date : (text : List ℕ) → 35 < length text → date_of_text text ≡ Err date_faults.Form
unfolding date_of_text
long_date text l = rw (longer_date text (omega (arith, l))) refl
