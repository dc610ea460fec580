-- What is written in a field is read from it, and nothing else is.
use Rattle.std.proofs.Common.{◌≡◌, ℕ, suc, ◌+◌, ◌*◌, ◌/◌, ◌%◌, ◌<◌, ◌≤◌, ◌^◌, Bool, true, false, not, ◌&&◌, ◌==◌, List, [], ◌∷◌, ◌++◌, length, take, drop, get_or, Option, Some, None, refl, sym, ap, ◌∙◌, subst, arith}
use Rattle.std.specs.Prelude.{decimal, bytes_eq, cond, nat_le, nat_lt, option_map, option_and_then, unwrap_or, ◌≢◌}
use Rattle.std.specs.List.{list_all, position, position_or_len}
use Rattle.std.specs.Char.{digit_value}
use Rattle.std.specs.Str.Parse.{AllDigits, digits_value, digits_value_after}
use Rattle.std.proofs.Math.Seq.{take-append_seam, drop-append-add, split_at}
use Rattle.std.proofs.lemmas.List.{length-append}
use Rattle.std.proofs.lemmas.Bool.{and_from, eq-eqb, ne_eqb, le-leb, leb-true}
use Rattle.std.proofs.lemmas.Bool.Decides.{Decides-eqb, Decides-ltb}
use Rattle.std.proofs.lemmas.Fmt.{decimal_is_IsNumeral}
use Rattle.std.proofs.lemmas.List.Quantifiers.{position-Some}
use Rattle.std.proofs.lemmas.Slice.Eq.{bytes_eq-Decides}
use Rattle.std.proofs.lemmas.Str.{digit_value_digit}
use Rattle.std.proofs.lemmas.Str.Parse.{digit_from_value}
use Rattle.cash_amounts.specs.AmountText.{amount_text}
use Rattle.cash_amounts.specs.Names.{is_digit}
use Rattle.cash_amounts.specs.declared.cents.TheConstants.{MAX_CENTS}
use Rattle.commit_journal.specs.FieldGrammar.{Read, when, around, cut, read_field, after_word, read_number, read_amount, digits_in, cents_in}
use Rattle.outside_io.specs.TextLine.{semicolon}

pub both : (x y : Bool) → (x && y) ≡ true → (x ≡ true) × (y ≡ true)
both true y h = (refl, h)
both false y h = cc

pub of_not : (x : Bool) → not x ≡ true → x ≡ false
of_not false h = refl
of_not true h = cc

pub some_is : {X : Type 0} (x y : X) → Some x ≡ Some y → x ≡ y
some_is x y e = ap (λ o. unwrap_or o x) e

-- what passed a test, and that it did
pub when_some : {X : Type 0} (test : Bool) (x y : X) → when test x ≡ Some y → (test ≡ true) × (x ≡ y)
when_some true x y h = (refl, some_is x y h)
when_some false x y h = absurd (cc)

pub none_of : {X : Type 0} (o : Option X) → ((x : X) → o ≡ Some x → ⊥) → o ≡ None
none_of None never = refl
none_of (Some x) never = absurd (never x refl)

pub then_some : {A B : Type 0} (f : A → Option B) (o : Option A) (x : A) (y : Option B) → o ≡ Some x → f x ≡ y → option_and_then f o ≡ y
then_some f o x y e h = ap (option_and_then f) e ∙ h

pub then_only : {A B : Type 0} (f : A → Option B) (o : Option A) (y : B) → option_and_then f o ≡ Some y → (x : A) × (o ≡ Some x) × (f x ≡ Some y)
then_only f None y h = absurd (cc)
then_only f (Some x) y h = (x, refl, h)

-- ---- cutting

-- the mark isn't among the bytes
abbrev pub is_free : ℕ → List ℕ → Bool
is_free mark bytes = list_all (λ b. not (b == mark)) bytes

position-at : (mark : ℕ) (field rest : List ℕ) → is_free mark field ≡ true → position_or_len (λ b. b == mark) (field ++ mark ∷ rest) ≡ length field
position-at mark [] rest h = rw (eq-eqb mark mark refl) refl
position-at mark (b ∷ field) rest h =
    let parts = both (not (b == mark)) (is_free mark field) h in
    let more : 1 + length field ≡ suc (length field) = omega arith in
    rw (of_not (b == mark) parts.0) (ap (λ (n : ℕ). 1 + n) (position-at mark field rest parts.1) ∙ more)

first_mark : (mark : ℕ) (field rest : List ℕ) → is_free mark field ≡ true → position (λ b. b == mark) (field ++ mark ∷ rest) ≡ Some (length field)
first_mark mark field rest h =
    let low : length field < length (field ++ mark ∷ rest) = omega (arith, length-append field (mark ∷ rest)) in
    ap (λ n. cond (nat_lt n (length (field ++ mark ∷ rest))) (Some n) None) (position-at mark field rest h)
    ∙ ap (λ b. cond b (Some (length field)) None) ((Decides-ltb (length field) (length (field ++ mark ∷ rest))).1 low)

pub cut-at : (mark : ℕ) (field rest : List ℕ) → is_free mark field ≡ true → cut mark (field ++ mark ∷ rest) ≡ Some (field, rest)
unfolding cut
cut-at mark field rest h =
    let front : List ℕ → Read (List ℕ) = λ xs. Some (xs, drop (length field + 1) (field ++ mark ∷ rest)) in
    let back : List ℕ → Read (List ℕ) = λ xs. Some (field, xs) in
    ap (option_map (around (field ++ mark ∷ rest))) (first_mark mark field rest h)
    ∙ ap front (take-append_seam field (mark ∷ rest))
    ∙ ap back (drop-append-add field (mark ∷ rest) 1)

pub cut-only : (mark : ℕ) (bytes field rest : List ℕ) → cut mark bytes ≡ Some (field, rest) → bytes ≡ field ++ mark ∷ rest
unfolding cut
cut-only mark bytes field rest h = go (position (λ b. b == mark) bytes) refl h
  where
    go : (o : Option ℕ) → position (λ b. b == mark) bytes ≡ o → option_map (around bytes) o ≡ Some (field, rest) → bytes ≡ field ++ mark ∷ rest
    go None e k = absurd (cc)
    go (Some i) e k =
        let found = position-Some (λ b. b == mark) bytes i 0 e in
        let is_mark : get_or bytes i 0 ≡ mark = (Decides-eqb (get_or bytes i 0) mark).0 found.1 in
        let next : suc i ≡ i + 1 = omega arith in
        let pair : (take i bytes, drop (i + 1) bytes) ≡ (field, rest) = some_is _ _ k in
        let front : take i bytes ≡ field = ap (λ (p : List ℕ × List ℕ). p.0) pair in
        let back : drop (i + 1) bytes ≡ rest = ap (λ (p : List ℕ × List ℕ). p.1) pair in
        split_at bytes i 0 found.0
        ∙ ap (λ b. take i bytes ++ b ∷ drop (suc i) bytes) is_mark
        ∙ ap (λ j. take i bytes ++ mark ∷ drop j bytes) next
        ∙ ap (λ xs. xs ++ mark ∷ drop (i + 1) bytes) front
        ∙ ap (λ xs. field ++ mark ∷ xs) back

pub field_read : {X : Type 0} (mark : ℕ) (read : List ℕ → Option X) (text rest : List ℕ) (x : X) → is_free mark text ≡ true → read text ≡ Some x →
    read_field mark read (text ++ mark ∷ rest) ≡ Some (x, rest)
field_read mark read text rest x free e = then_some _ _ _ _ (cut-at mark text rest free) (then_some _ _ _ _ e refl)

pub field_only : {X : Type 0} (mark : ℕ) (read : List ℕ → Option X) (bytes : List ℕ) (y : X × List ℕ) → read_field mark read bytes ≡ Some y →
    (text : List ℕ) × (read text ≡ Some y.0) × (bytes ≡ text ++ mark ∷ y.1)
field_only {X} mark read bytes y h =
    let a = then_only _ _ y h in
    let b = then_only _ _ y a.2 in
    let pair : (b.0, a.0.1) ≡ y = some_is _ _ b.2 in
    let first : b.0 ≡ y.0 = ap (λ (p : X × List ℕ). p.0) pair in
    let second : a.0.1 ≡ y.1 = ap (λ (p : X × List ℕ). p.1) pair in
    (a.0.0, b.1 ∙ ap Some first, cut-only mark bytes a.0.0 a.0.1 a.1 ∙ ap (λ xs. a.0.0 ++ mark ∷ xs) second)

pub word_read : (word rest : List ℕ) → is_free semicolon word ≡ true → after_word word (word ++ semicolon ∷ rest) ≡ Some rest
unfolding after_word
word_read word rest free =
    then_some _ _ _ _ (cut-at semicolon word rest free) (ap (λ b. when b rest) ((bytes_eq-Decides word word).1 refl))

pub word_only : (word bytes rest : List ℕ) → after_word word bytes ≡ Some rest → bytes ≡ word ++ semicolon ∷ rest
unfolding after_word
word_only word bytes rest h =
    let a = then_only _ _ rest h in
    let w = when_some _ _ _ a.2 in
    cut-only semicolon bytes a.0.0 a.0.1 a.1
    ∙ ap (λ xs. xs ++ semicolon ∷ a.0.1) ((bytes_eq-Decides a.0.0 word).0 w.0)
    ∙ ap (λ xs. word ++ semicolon ∷ xs) w.1

-- ---- numbers

pub number_read : (low high n : ℕ) → low ≤ n → n ≤ high → n < 2 ^ 64 → read_number low high (decimal n) ≡ Some n
unfolding read_number
number_read low high n least most small =
    ap (λ v. when (bytes_eq (decimal v) (decimal n) && nat_le low v && nat_le v high) v) (decimal_is_IsNumeral n small).1
    ∙ ap (λ b. when b n) (and_from _ _ (and_from _ _ ((bytes_eq-Decides (decimal n) (decimal n)).1 refl) (le-leb low n least)) (le-leb n high most))

pub number_only : (low high n : ℕ) (bytes : List ℕ) → read_number low high bytes ≡ Some n → (bytes ≡ decimal n) × (low ≤ n) × (n ≤ high)
unfolding read_number
number_only low high n bytes h =
    let w = when_some _ _ _ h in
    let a = both _ _ w.0 in
    let b = both _ _ a.0 in
    subst (λ (v : ℕ). (bytes ≡ decimal v) × (low ≤ v) × (v ≤ high)) w.1
    (sym ((bytes_eq-Decides (decimal (digits_value 10 bytes)) bytes).0 b.0), leb-true low (digits_value 10 bytes) b.1, leb-true (digits_value 10 bytes) high a.1)

-- where no number from low to high is written so
pub number_never : (low high : ℕ) (bytes : List ℕ) → ((n : ℕ) → low ≤ n → n ≤ high → bytes ≡ decimal n → ⊥) → read_number low high bytes ≡ None
number_never low high bytes never = none_of _ (λ n e. let o = number_only low high n bytes e in never n o.1 o.2 o.0)

digits_free : (c : ℕ) → ((b : ℕ) → 48 ≤ b → b ≤ 57 → b ≢ c) → (ds : List ℕ) → AllDigits 10 ds → is_free c ds ≡ true
digits_free c apart [] d = refl
digits_free c apart (b ∷ bs) d =
    let r = digit_from_value b d.0 in
    and_from _ _ (ap not (ne_eqb b c (apart b r.0 r.1))) (digits_free c apart bs d.1)

pub number_free : (c n : ℕ) → ((b : ℕ) → 48 ≤ b → b ≤ 57 → b ≢ c) → n < 2 ^ 64 → is_free c (decimal n) ≡ true
number_free c n apart small = digits_free c apart (decimal n) (decimal_is_IsNumeral n small).0.1

-- ---- amounts

digit_is : (c : ℕ) → 48 ≤ c → c ≤ 57 → is_digit c ≡ true
digit_is c low high = and_from _ _ (le-leb 48 c low) (le-leb c 57 high)

digits_stay : (ds rest : List ℕ) → AllDigits 10 ds → digits_in (ds ++ rest) ≡ ds ++ digits_in rest
digits_stay [] rest d = refl
digits_stay (c ∷ ds) rest d =
    let r = digit_from_value c d.0 in
    rw (digit_is c r.0 r.1) (ap (λ xs. c ∷ xs) (digits_stay ds rest d.1))

value_append : (n : ℕ) (ds es : List ℕ) → digits_value_after 10 n (ds ++ es) ≡ digits_value_after 10 (digits_value_after 10 n ds) es
value_append n [] es = refl
value_append n (d ∷ ds) es = value_append (n * 10 + digit_value d) ds es

value_of_digit : (d : ℕ) → d < 10 → digit_value (48 + d) ≡ d
value_of_digit d h = let same = digit_value_digit (48 + d) (omega arith, omega arith) in omega arith

digits_of_cents : (t o : ℕ) → t < 10 → o < 10 → digits_in (46 ∷ (48 + t) ∷ (48 + o) ∷ []) ≡ (48 + t) ∷ (48 + o) ∷ []
digits_of_cents t o ht ho = rw (digit_is (48 + t) (omega arith) (omega arith), digit_is (48 + o) (omega arith) (omega arith)) refl

amount_value : (e t o : ℕ) → e < 2 ^ 64 → t < 10 → o < 10 → cents_in (decimal e ++ 46 ∷ (48 + t) ∷ (48 + o) ∷ []) ≡ (e * 10 + t) * 10 + o
amount_value e t o small ht ho =
    ap (digits_value 10) (digits_stay (decimal e) (46 ∷ (48 + t) ∷ (48 + o) ∷ []) (decimal_is_IsNumeral e small).0.1 ∙ ap (λ xs. decimal e ++ xs) (digits_of_cents t o ht ho))
    ∙ value_append 0 (decimal e) ((48 + t) ∷ (48 + o) ∷ [])
    ∙ ap (λ v. (v * 10 + digit_value (48 + t)) * 10 + digit_value (48 + o)) (decimal_is_IsNumeral e small).1
    ∙ ap (λ v. (e * 10 + v) * 10 + digit_value (48 + o)) (value_of_digit t ht)
    ∙ ap (λ v. (e * 10 + t) * 10 + v) (value_of_digit o ho)

pub cents_in-text : (n : ℕ) → n < 2 ^ 64 → cents_in (amount_text n) ≡ n
cents_in-text n small =
    let same : (n / 100 * 10 + n / 10 % 10) * 10 + n % 10 ≡ n = omega arith in
    amount_value (n / 100) (n / 10 % 10) (n % 10) (omega arith) (omega arith) (omega arith) ∙ same

pub amount_read : (n : ℕ) → 1 ≤ n → n ≤ MAX_CENTS → read_amount (amount_text n) ≡ Some n
unfolding read_amount
amount_read n least most =
    ap (λ v. when (bytes_eq (amount_text v) (amount_text n) && nat_le 1 v && nat_le v MAX_CENTS) v) (cents_in-text n (omega arith))
    ∙ ap (λ b. when b n) (and_from _ _ (and_from _ _ ((bytes_eq-Decides (amount_text n) (amount_text n)).1 refl) (le-leb 1 n least)) (le-leb n MAX_CENTS most))

pub amount_only : (n : ℕ) (bytes : List ℕ) → read_amount bytes ≡ Some n → (bytes ≡ amount_text n) × (1 ≤ n) × (n ≤ MAX_CENTS)
unfolding read_amount
amount_only n bytes h =
    let w = when_some _ _ _ h in
    let a = both _ _ w.0 in
    let b = both _ _ a.0 in
    subst (λ (v : ℕ). (bytes ≡ amount_text v) × (1 ≤ v) × (v ≤ MAX_CENTS)) w.1
    (sym ((bytes_eq-Decides (amount_text (cents_in bytes)) bytes).0 b.0), leb-true 1 (cents_in bytes) b.1, leb-true (cents_in bytes) MAX_CENTS a.1)

pub amount_never : (bytes : List ℕ) → ((n : ℕ) → 1 ≤ n → n ≤ MAX_CENTS → bytes ≡ amount_text n → ⊥) → read_amount bytes ≡ None
amount_never bytes never = none_of _ (λ n e. let o = amount_only n bytes e in never n o.1 o.2 o.0)

pub free_append : (c : ℕ) (xs ys : List ℕ) → is_free c xs ≡ true → is_free c ys ≡ true → is_free c (xs ++ ys) ≡ true
free_append c [] ys h g = g
free_append c (x ∷ xs) ys h g = let parts = both (not (x == c)) (is_free c xs) h in and_from _ _ parts.0 (free_append c xs ys parts.1 g)

pub amount_free : (c n : ℕ) → ((b : ℕ) → 48 ≤ b → b ≤ 57 → b ≢ c) → 46 ≢ c → n < 2 ^ 64 → is_free c (amount_text n) ≡ true
amount_free c n apart stop small =
    free_append c (decimal (n / 100)) (46 ∷ (48 + n / 10 % 10) ∷ (48 + n % 10) ∷ [])
    (number_free c (n / 100) apart (omega arith))
    (and_from _ _ (ap not (ne_eqb 46 c stop))
    (and_from _ _ (ap not (ne_eqb (48 + n / 10 % 10) c (apart (48 + n / 10 % 10) (omega arith) (omega arith))))
    (and_from _ _ (ap not (ne_eqb (48 + n % 10) c (apart (48 + n % 10) (omega arith) (omega arith)))) refl)))
