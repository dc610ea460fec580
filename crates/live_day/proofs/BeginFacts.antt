-- What may be the front of a header.
use Rattle.std.proofs.Common.{◌≡◌, ◌∙◌, ◌+◌, ◌-◌, ◌^◌, ◌≤◌, ◌<◌, ◌++◌, ℕ, zero, suc, Bool, true, false, List, [], ◌∷◌, Option, None, Some, get_or, length, length-append, length-drop, take, drop, take-append-drop, append_assoc, refl, sym, ap, subst, arith, inl, inr}
use Rattle.std.specs.Prelude.{◌&&◌, bytes_eq, codes, decimal, if◌then◌else◌, is_some, nat_eq, nat_le}
use Rattle.std.specs.List.{starts_with}
use Rattle.std.specs.Str.Parse.{AllDigits, digits_value}
use Rattle.std.proofs.Math.Seq.{take-append-add, take-append_seam}
use Rattle.std.proofs.lemmas.Bool.{le-leb}
use Rattle.std.proofs.lemmas.Bool.Decides.{Decides-eqb}
use Rattle.std.proofs.lemmas.Fmt.{decimal-digits_value, decimal_is_IsNumeral, first_decimal, length-decimal-le}
use Rattle.std.proofs.lemmas.List.{drop-append-le, take-append-le}
use Rattle.std.proofs.lemmas.Slice.Eq.{bytes_eq-Decides, starts_is}
use Rattle.std.proofs.lemmas.Str.Parse.{digits_value-take-le}
use Rattle.batch_records.proofs.BoolFacts.{and_both, le_failed, le_meant}
use Rattle.live_day.specs.Headers.{number_is}
use Rattle.live_day.specs.Resumed.{may_begin, number_within}
use Rattle.live_day.proofs.HeaderFacts.{number_found}
use Rattle.live_day.proofs.HeadersTaken.{digits_pass}

-- ---- the first digits of a number are a number

digits_front : (ds more : List ℕ) → AllDigits 10 (ds ++ more) → AllDigits 10 ds
digits_front [] more d = tt
digits_front (c ∷ ds) more d = (d.0, digits_front ds more d.1)

pub some_is : (o : Option ℕ) → is_some o ≡ true → (n : ℕ) × (o ≡ Some n)
some_is None e = cc e
some_is (Some n) e = (n, refl)

first_same : (ds more : List ℕ) → 0 < length ds → get_or (ds ++ more) 0 0 ≡ get_or ds 0 0
first_same [] more some = absurd (omega (arith, some))
first_same (c ∷ ds) more some = refl

-- only 0 begins with a zero
no_lead : (n : ℕ) (ds more : List ℕ) → n < 2 ^ 64 → 0 < length ds → decimal n ≡ ds ++ more → get_or ds 0 0 ≡ 48 → length ds ≡ 1
no_lead zero ds more small some is lead =
    let sum = length-append ds more in
    let same : length (decimal zero) ≡ length (ds ++ more) = ap (length {A = ℕ}) is in
    let short = length-decimal-le 1 zero (omega arith) (omega arith) small in
    omega (arith, sum, same, short, some)
no_lead (suc n) ds more small some is lead =
    let far = first_decimal (suc n) (omega arith) small in
    let same : get_or (decimal (suc n)) 0 0 ≡ 48 = ap (λ (t : List ℕ). get_or t 0 0) is ∙ first_same ds more some ∙ lead in
    absurd (omega (arith, far, same))

number_front : (most : ℕ) (ds more : List ℕ) → most < 10 ^ 9 → 0 < length ds → is_some (number_within most (ds ++ more)) ≡ true → is_some (number_within most ds) ≡ true
number_front most ds more low some e =
    let found = some_is (number_within most (ds ++ more)) e in
    let n = found.0 in
    let is = number_is most (ds ++ more) n found.1 in
    let small : n < 2 ^ 64 = (let a = is.0 in omega (arith, a, low)) in
    let all : AllDigits 10 (ds ++ more) = subst (AllDigits 10) is.1 (decimal_is_IsNumeral n small).0.1 in
    let digits = digits_front ds more all in
    let less = digits_value-take-le 10 (ds ++ more) (length ds) (omega arith) in
    let front : digits_value 10 (take (length ds) (ds ++ more)) ≡ digits_value 10 ds = ap (digits_value 10) (take-append_seam ds more) in
    let within : digits_value 10 ds ≤ most = (let a = is.0 in let b = is.2 in omega (arith, a, b, less, front)) in
    let written : decimal (digits_value 10 ds) ≡ ds =
    decimal-digits_value {P = AllDigits 10} {v = digits_value 10} (record { from = λ xs d. d; to = λ xs d. d; same = λ xs d. refl }) ds digits some (no_lead n ds more small some is.1) (omega (arith, within, low)) in
    ap is_some (sym (number_found most (digits_value 10 ds) ds (digits_pass ds digits) refl ((bytes_eq-Decides (decimal (digits_value 10 ds)) ds).1 written) within))

-- ---- the front of a header may be one

pub header_front : (word : List ℕ) (most : ℕ) (text more : List ℕ) → most < 10 ^ 9 → (starts_with nat_eq (text ++ more) (word ++ codes ";") && is_some (number_within most (drop (length word + 1) (text ++ more)))) ≡ true → may_begin word most text ≡ true
header_front word most text more low e = by (nat_le (length text) (length word + 1)) refl
  where
    both : (starts_with nat_eq (text ++ more) (word ++ codes ";") ≡ true) × (is_some (number_within most (drop (length word + 1) (text ++ more))) ≡ true)
    both = and_both (starts_with nat_eq (text ++ more) (word ++ codes ";")) (is_some (number_within most (drop (length word + 1) (text ++ more)))) e

    size : length (word ++ codes ";") ≡ length word + 1
    size = length-append word (codes ";")

    whole : text ++ more ≡ (word ++ codes ";") ++ drop (length (word ++ codes ";")) (text ++ more)
    whole = (starts_is Decides-eqb (text ++ more) (word ++ codes ";") (starts_with nat_eq (text ++ more) (word ++ codes ";")) refl).0 both.0

    as_front : text ≡ take (length text) ((word ++ codes ";") ++ drop (length (word ++ codes ";")) (text ++ more))
    as_front = sym (take-append_seam text more) ∙ ap (take (length text)) whole

    inside : length text ≤ length word + 1 → starts_with nat_eq (word ++ codes ";") text ≡ true
    inside short =
        let s = size in
        let part : text ≡ take (length text) (word ++ codes ";") = as_front ∙ take-append-le (length text) (word ++ codes ";") (drop (length (word ++ codes ";")) (text ++ more)) (omega (arith, short, s)) in
        (starts_is Decides-eqb (word ++ codes ";") text (starts_with nat_eq (word ++ codes ";") text) refl).1 (drop (length text) (word ++ codes ";"))
        (sym (take-append-drop (length text) (word ++ codes ";")) ∙ ap (λ (t : List ℕ). t ++ drop (length text) (word ++ codes ";")) (sym part))

    beyond : length word + 1 < length text → (starts_with nat_eq text (word ++ codes ";") && is_some (number_within most (drop (length word + 1) text))) ≡ true
    beyond long =
        let s = size in
        let count : length text ≡ length (word ++ codes ";") + (length text - length (word ++ codes ";")) = omega (arith, s, long) in
        let after : List ℕ = drop (length (word ++ codes ";")) (text ++ more) in
        let is : text ≡ (word ++ codes ";") ++ take (length text - length (word ++ codes ";")) after =
        as_front ∙ ap (λ (n : ℕ). take n ((word ++ codes ";") ++ after)) count ∙ take-append-add (word ++ codes ";") after (length text - length (word ++ codes ";")) in
        let named : starts_with nat_eq text (word ++ codes ";") ≡ true = (starts_is Decides-eqb text (word ++ codes ";") (starts_with nat_eq text (word ++ codes ";")) refl).1 (take (length text - length (word ++ codes ";")) after) is in
        let left = length-drop {A = ℕ} (length word + 1) text in
        let number : is_some (number_within most (drop (length word + 1) text)) ≡ true =
        number_front most (drop (length word + 1) text) more low (omega (arith, left, long)) (ap (λ (t : List ℕ). is_some (number_within most t)) (sym (drop-append-le (length word + 1) text more (omega (arith, long)))) ∙ both.1) in
        (λ i. named i && number i)

    by : (x : Bool) → nat_le (length text) (length word + 1) ≡ x
        → (if x then starts_with nat_eq (word ++ codes ";") text else starts_with nat_eq text (word ++ codes ";") && is_some (number_within most (drop (length word + 1) text))) ≡ true
    by true e = inside (le_meant (length text) (length word + 1) e)
    by false e = beyond (le_failed (length text) (length word + 1) e)

-- and so may the front of that
pub begins_front : (word : List ℕ) (most : ℕ) (text more : List ℕ) → most < 10 ^ 9 → may_begin word most (text ++ more) ≡ true → may_begin word most text ≡ true
begins_front word most text more low e = by (nat_le (length (text ++ more)) (length word + 1)) refl e
  where
    short : length (text ++ more) ≤ length word + 1 → starts_with nat_eq (word ++ codes ";") (text ++ more) ≡ true → may_begin word most text ≡ true
    short small is =
        let sum = length-append text more in
        let whole = (starts_is Decides-eqb (word ++ codes ";") (text ++ more) (starts_with nat_eq (word ++ codes ";") (text ++ more)) refl).0 is in
        let near : nat_le (length text) (length word + 1) ≡ true = le-leb (length text) (length word + 1) (omega (arith, small, sum)) in
        ap (λ (x : Bool). if x then starts_with nat_eq (word ++ codes ";") text else starts_with nat_eq text (word ++ codes ";") && is_some (number_within most (drop (length word + 1) text))) near
        ∙ (starts_is Decides-eqb (word ++ codes ";") text (starts_with nat_eq (word ++ codes ";") text) refl).1 (more ++ drop (length (text ++ more)) (word ++ codes ";")) (whole ∙ append_assoc text more (drop (length (text ++ more)) (word ++ codes ";")))

    by : (x : Bool) → nat_le (length (text ++ more)) (length word + 1) ≡ x
        → (if x then starts_with nat_eq (word ++ codes ";") (text ++ more) else starts_with nat_eq (text ++ more) (word ++ codes ";") && is_some (number_within most (drop (length word + 1) (text ++ more)))) ≡ true → may_begin word most text ≡ true
    by true l e = short (le_meant (length (text ++ more)) (length word + 1) l) e
    by false l e = header_front word most text more low e
