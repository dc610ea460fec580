-- The amount of a text by recursion is the one of the grammar.
use Rattle.std.proofs.Common.{◌≡◌, ℕ, ◌+◌, ◌-◌, ◌*◌, ◌<◌, ◌≤◌, ◌⊎◌, List, [], ◌∷◌, Option, Some, None, Bool, true, false, refl, sym, inl, inr, arith}
use Rattle.std.specs.Prelude.{Result, Ok, Err, IfOk, IfErr, ◌&&◌, ◌==◌, if◌then◌else◌, nat_le, nat_lt}
use Rattle.std.proofs.lemmas.Grind.{common_steps}
use Rattle.std.proofs.lemmas.Option.{same_Some}
use Rattle.std.specs.Result.{result_ok}
use Rattle.cash_amounts.specs.declared.amount_text.AmountFault.{AmountFault}
use Rattle.cash_amounts.specs.AmountGrammar.{EndsInEuros, EndsInTenths, EndsInUnits, HasForm, IsAmountFault, IsAmountText, IsDigit}
use Rattle.cash_amounts.specs.Names.{is_digit}
use Rattle.cash_amounts.specs.declared.cents.TheConstants.{MAX_CENTS}
use Rattle.batch_records.specs.Amounts.{cents_of, spelled_cents, with_euros, with_tenths, with_units, within_largest}

digit_test : (c : ℕ) → IsDigit c → is_digit c ≡ true
digit_test c h = let low = h.0 in let high = h.1 in grind (arith, common_steps)

digit_meant : (c : ℕ) → is_digit c ≡ true → IsDigit c
digit_meant c e = (grind (arith, common_steps, e), grind (arith, common_steps, e))

no_stop : (c : ℕ) → IsDigit c → (c == 46) ≡ false
no_stop c h = let low = h.0 in grind (arith, common_steps)

above_zero : (n : ℕ) → 0 < n → nat_lt 0 n ≡ true
above_zero n h = grind (arith, common_steps)

-- ---- what the grammar calls an amount is found

units_found : (cents : ℕ) (text : List ℕ) (n : ℕ) → EndsInUnits cents text n → with_units cents text ≡ Some n
units_found cents [] n h = absurd h
units_found cents (u ∷ []) n h = rw (digit_test u h.0, h.1) refl
units_found cents (u ∷ v ∷ text) n h = absurd h

tenths_found : (cents : ℕ) (text : List ℕ) (n : ℕ) → EndsInTenths cents text n → with_tenths cents text ≡ Some n
tenths_found cents [] n h = absurd h
tenths_found cents (t ∷ text) n h = rw (digit_test t h.0) (units_found (cents + 10 * (t - 48)) text n h.1)

euros_found : (euros : ℕ) (text : List ℕ) (n : ℕ) → EndsInEuros euros text n → with_euros euros text ≡ Some n
euros_found euros [] n h = absurd h
euros_found euros (c ∷ text) n (inl h) = rw h.0 (tenths_found (100 * euros) text n h.1)
euros_found euros (c ∷ text) n (inr h) = rw (no_stop c h.1, above_zero euros h.0, digit_test c h.1) (euros_found (10 * euros + (c - 48)) text n h.2)

form_found : (text : List ℕ) (n : ℕ) → HasForm text n → spelled_cents text ≡ Some n
form_found [] n h = absurd h
form_found (c ∷ text) n h = rw (digit_test c h.0) (euros_found (c - 48) text n h.1)

within_test : (n : ℕ) → n ≤ MAX_CENTS → nat_le n MAX_CENTS ≡ true
within_test n h = grind (arith, common_steps)

pub amount_found : (text : List ℕ) (n : ℕ) → IsAmountText text n → cents_of text ≡ Some n
unfolding cents_of
amount_found text n h = rw (form_found text n h.form, within_test n h.within) refl

-- ---- and nothing else

if_some : (b : Bool) (o : Option ℕ) (n : ℕ) → (if b then o else None) ≡ Some n → (b ≡ true) × (o ≡ Some n)
if_some true o n e = (refl, e)
if_some false o n e = cc e

if_either : (b : Bool) (o p : Option ℕ) (n : ℕ) → (if b then o else p) ≡ Some n → ((b ≡ true) × (o ≡ Some n)) ⊎ (p ≡ Some n)
if_either true o p n e = inl (refl, e)
if_either false o p n e = inr e

both : (a b : Bool) → (a && b) ≡ true → (a ≡ true) × (b ≡ true)
both true true e = (refl, refl)
both true false e = cc e
both false b e = cc e

stop_meant : (c : ℕ) → (c == 46) ≡ true → c ≡ 46
stop_meant c e = grind (arith, common_steps, e)

above_meant : (n : ℕ) → nat_lt 0 n ≡ true → 0 < n
above_meant n e = grind (arith, common_steps, e)

units_meant : (cents : ℕ) (text : List ℕ) (n : ℕ) → with_units cents text ≡ Some n → EndsInUnits cents text n
units_meant cents [] n e = cc e
units_meant cents (u ∷ []) n e =
    let (digit, value) = if_some (is_digit u) (Some (cents + (u - 48))) n e in
    (digit_meant u digit, sym (same_Some _ _ value))
units_meant cents (u ∷ v ∷ text) n e = cc e

tenths_meant : (cents : ℕ) (text : List ℕ) (n : ℕ) → with_tenths cents text ≡ Some n → EndsInTenths cents text n
tenths_meant cents [] n e = cc e
tenths_meant cents (t ∷ text) n e =
    let (digit, rest) = if_some (is_digit t) (with_units (cents + 10 * (t - 48)) text) n e in
    (digit_meant t digit, units_meant (cents + 10 * (t - 48)) text n rest)

euros_meant : (euros : ℕ) (text : List ℕ) (n : ℕ) → with_euros euros text ≡ Some n → EndsInEuros euros text n
euros_meant euros [] n e = cc e
euros_meant euros (c ∷ text) n e =
    elim (if_either (c == 46) (with_tenths (100 * euros) text) (if nat_lt 0 euros && is_digit c then with_euros (10 * euros + (c - 48)) text else None) n e) [
      | inl stop ↦ inl (stop_meant c stop.0, tenths_meant (100 * euros) text n stop.1)
      | inr more ↦
          let (tests, rest) = if_some (nat_lt 0 euros && is_digit c) (with_euros (10 * euros + (c - 48)) text) n more in
          let (above, digit) = both (nat_lt 0 euros) (is_digit c) tests in
          inr (above_meant euros above, digit_meant c digit, euros_meant (10 * euros + (c - 48)) text n rest)
    ]

form_meant : (text : List ℕ) (n : ℕ) → spelled_cents text ≡ Some n → HasForm text n
form_meant [] n e = cc e
form_meant (c ∷ text) n e =
    let (digit, rest) = if_some (is_digit c) (with_euros (c - 48) text) n e in
    (digit_meant c digit, euros_meant (c - 48) text n rest)

within_meant : (o : Option ℕ) (n : ℕ) → within_largest o ≡ Some n → (o ≡ Some n) × (n ≤ MAX_CENTS)
within_meant None n e = cc e
within_meant (Some m) n e =
    let (test, is) = if_some (nat_le m MAX_CENTS) (Some m) n e in
    let same = same_Some _ _ is in
    (is, grind (arith, common_steps, test, same))

pub amount_meant : (text : List ℕ) (n : ℕ) → cents_of text ≡ Some n → IsAmountText text n
unfolding cents_of
amount_meant text n e =
    let (spelled, within) = within_meant (spelled_cents text) n e in
    record { form = form_meant text n spelled; within = within }

none_of : (o : Option ℕ) → ((n : ℕ) → o ≡ Some n → ⊥) → o ≡ None
none_of None h = refl
none_of (Some n) h = absurd (h n refl)

amount_none : (text : List ℕ) (at : ℕ) → IsAmountFault text at → cents_of text ≡ None
amount_none text at h = none_of (cents_of text) (λ n e. h.no_amount n (amount_meant text n e))

-- what the reader of amounts answers
pub amount_read : (text : List ℕ) (read : Result ℕ AmountFault) → IfOk read (λ cents. IsAmountText text cents) → IfErr read (λ fault. IsAmountFault text fault.at) → result_ok read ≡ cents_of text
amount_read text (Ok cents) ok err = sym (amount_found text cents ok)
amount_read text (Err fault) ok err = sym (amount_none text fault.at err)
