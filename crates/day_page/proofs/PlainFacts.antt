-- Names and identifications have no byte of the markup.
use Rattle.std.proofs.Common.{◌≡◌, ℕ, ◌≤◌, ◌<◌, Bool, true, false, List, [], ◌∷◌, refl, arith}
use Rattle.std.specs.Prelude.{◌&&◌, ◌||◌, ◌==◌, nat_le, not}
use Rattle.std.specs.List.{list_all}
use Rattle.std.proofs.lemmas.Bool.{and_parts, eqb-true, leb-true, ne_eqb}
use Rattle.cash_amounts.specs.Names.{is_capital, is_digit, is_id_byte, is_name_byte, is_small}
use Rattle.day_page.specs.Laws.{IdsArePlain, NamesArePlain}
use Rattle.day_page.specs.Markup.{is_plain}

-- what holds of each byte holds of all
all_more : (p q : ℕ → Bool) → ((byte : ℕ) → p byte ≡ true → q byte ≡ true) → (text : List ℕ) → list_all p text ≡ true → list_all q text ≡ true
all_more p q h [] e = refl
all_more p q h (byte ∷ text) e =
    let parts = and_parts (p byte) (list_all p text) e in
    (λ i. h byte parts.0 i && all_more p q h text parts.1 i)

either : {P : Type 0} (x y : Bool) → (x || y) ≡ true → (x ≡ true → P) → (y ≡ true → P) → P
either true y e p q = p refl
either false y e p q = q e

-- a byte that is none of the five
plain_of : (c : ℕ) → (c ≡ 60 → ⊥) → (c ≡ 62 → ⊥) → (c ≡ 38 → ⊥) → (c ≡ 34 → ⊥) → (c ≡ 39 → ⊥) → is_plain c ≡ true
plain_of c p q r s t = λ i. not (ne_eqb c 60 p i) && not (ne_eqb c 62 q i) && not (ne_eqb c 38 r i) && not (ne_eqb c 34 s i) && not (ne_eqb c 39 t i)

-- between two numbers, of which none of the five lies
letter : (c low high : ℕ) → 62 < low → (nat_le low c && nat_le c high) ≡ true → is_plain c ≡ true
letter c low high above e =
    let h : low ≤ c = leb-true low c (and_parts (nat_le low c) (nat_le c high) e).0 in
    plain_of c (λ z. omega (arith, above, h, z)) (λ z. omega (arith, above, h, z)) (λ z. omega (arith, above, h, z)) (λ z. omega (arith, above, h, z)) (λ z. omega (arith, above, h, z))

digit : (c : ℕ) → is_digit c ≡ true → is_plain c ≡ true
digit c e =
    let parts = and_parts (nat_le 48 c) (nat_le c 57) e in
    let low : 48 ≤ c = leb-true 48 c parts.0 in
    let high : c ≤ 57 = leb-true c 57 parts.1 in
    plain_of c (λ z. omega (arith, high, z)) (λ z. omega (arith, high, z)) (λ z. omega (arith, low, z)) (λ z. omega (arith, low, z)) (λ z. omega (arith, low, z))

dash : (c : ℕ) → (c == 45) ≡ true → is_plain c ≡ true
dash c e =
    let is : c ≡ 45 = eqb-true c 45 e in
    plain_of c (λ z. omega (arith, is, z)) (λ z. omega (arith, is, z)) (λ z. omega (arith, is, z)) (λ z. omega (arith, is, z)) (λ z. omega (arith, is, z))

name_byte : (byte : ℕ) → is_name_byte byte ≡ true → is_plain byte ≡ true
name_byte c e = either (is_capital c) (is_digit c) e (letter c 65 90 (omega arith)) (digit c)

id_byte : (byte : ℕ) → is_id_byte byte ≡ true → is_plain byte ≡ true
id_byte c e =
    either ((is_capital c || is_small c) || is_digit c) (c == 45) e (λ f. either (is_capital c || is_small c) (is_digit c) f (λ g. either (is_capital c) (is_small c) g (letter c 65 90 (omega arith)) (letter c 97 122 (omega arith))) (digit c)) (dash c)

pub names_plain : NamesArePlain
names_plain text e = all_more is_name_byte is_plain name_byte text (and_parts _ (list_all is_name_byte text) e).1

pub ids_plain : IdsArePlain
ids_plain text e = all_more is_id_byte is_plain id_byte text (and_parts _ (list_all is_id_byte text) e).1
