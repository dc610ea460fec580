-- A directory of hashes, one number further.
use Rattle.std.proofs.Common.{◌≡◌, ℕ, Bool, true, false, cond, Option, None, Some, refl, ap, ◌∙◌, sym}
use Rattle.std.specs.Prelude.{OnOk, Result, Ok, Err, is_ok, nat_eq}
use Rattle.std.specs.Option.{option_or}
use Rattle.std.proofs.lemmas.Bool.{eqb-true}

-- what holds at Ok, where it is
pub at_ok : {T E P : Type 0} (r : Result T E) → is_ok r ≡ true → OnOk r P → P
at_ok (Ok x) is p = p
at_ok (Err e) is p = cc is

or_none : {X : Type 0} (o : Option X) → o ≡ option_or o None
or_none None = refl
or_none (Some x) = refl

-- a number that is entered where there was none stands after those that were there
pub entered : (old new : ℕ → Option ℕ) (own n hash : ℕ) → old own ≡ None
    → new hash ≡ cond (nat_eq own hash) (Some n) (old hash)
    → new hash ≡ option_or (old hash) (cond (nat_eq own hash) (Some n) None)
entered old new own n hash free now = by (nat_eq own hash) refl now
  where
    by : (b : Bool) → nat_eq own hash ≡ b → new hash ≡ cond b (Some n) (old hash) → new hash ≡ option_or (old hash) (cond b (Some n) None)
    by true same e =
        let is = eqb-true own hash same in
        let none : old hash ≡ None = ap old (sym is) ∙ free in
        e ∙ sym (ap (λ o. option_or o (Some n)) none)
    by false same e = e ∙ or_none (old hash)
