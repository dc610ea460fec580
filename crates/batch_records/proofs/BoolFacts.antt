-- Tests that are joined.
use Rattle.std.proofs.Common.{◌≡◌, ◌<◌, ◌≤◌, ℕ, Bool, true, false, not, refl, arith, ◌⊎◌, inl, inr}
use Rattle.std.specs.Prelude.{◌||◌, ◌&&◌, nat_le, nat_lt}
use Rattle.std.proofs.lemmas.Grind.{common_steps}

pub and_both : (a b : Bool) → (a && b) ≡ true → (a ≡ true) × (b ≡ true)
and_both true true e = (refl, refl)
and_both true false e = cc e
and_both false b e = cc e

pub or_neither : (a b : Bool) → (a || b) ≡ false → (a ≡ false) × (b ≡ false)
or_neither false b e = (refl, e)
or_neither true b e = cc e

pub or_either : (a b : Bool) → (a || b) ≡ true → (a ≡ true) ⊎ (b ≡ true)
or_either true b e = inl refl
or_either false b e = inr e

pub not_false : (a : Bool) → not a ≡ false → a ≡ true
not_false true e = refl
not_false false e = cc e

pub not_true : (a : Bool) → not a ≡ true → a ≡ false
not_true false e = refl
not_true true e = cc e

pub or_false : (b : Bool) → (b || false) ≡ b
or_false true = refl
or_false false = refl

pub or_true : (b : Bool) → (b || true) ≡ true
or_true true = refl
or_true false = refl

pub le_test : (a b : ℕ) → a ≤ b → nat_le a b ≡ true
le_test a b h = grind (arith, common_steps)

pub le_meant : (a b : ℕ) → nat_le a b ≡ true → a ≤ b
le_meant a b e = grind (arith, common_steps, e)

pub lt_test : (a b : ℕ) → a < b → nat_lt a b ≡ true
lt_test a b h = grind (arith, common_steps)

pub lt_meant : (a b : ℕ) → nat_lt a b ≡ true → a < b
lt_meant a b e = grind (arith, common_steps, e)

pub le_failed : (a b : ℕ) → nat_le a b ≡ false → b < a
le_failed a b e = grind (arith, common_steps, e)

pub lt_failed : (a b : ℕ) → nat_lt a b ≡ false → b ≤ a
lt_failed a b e = grind (arith, common_steps, e)
