-- What is kept of a field and of a record, with one byte or one field more.
use Rattle.std.proofs.Common.{◌≡◌, ◌≢◌, ◌∙◌, ◌<◌, ◌≤◌, ℕ, zero, suc, Bool, true, false, List, [], ◌∷◌, ◌++◌, length, take, refl, sym, ap, arith}
use Rattle.std.specs.Prelude.{◌==◌, map}
use Rattle.std.proofs.lemmas.Bool.{eqb-false, eqb-true}
use Rattle.std.proofs.lemmas.List.{length-take-le, map-append, take_all}
use Rattle.record_rows.specs.Rows.{Fields, kept_field, kept_row}

-- a front that isn't full gets one item more
take_less : {X : Type 0} (n : ℕ) (xs : List X) (x : X) → length (take n xs) < n → take n (xs ++ x ∷ []) ≡ take n xs ++ x ∷ []
take_less zero xs x l = absurd (omega arith)
take_less (suc zero) [] x l = refl
take_less (suc (suc n)) [] x l = refl
take_less (suc n) (y ∷ ys) x l = ap (λ zs. y ∷ zs) (take_less n ys x (omega (arith, l)))

-- one that is full stays
take_full : {X : Type 0} (n : ℕ) (xs : List X) (x : X) → n ≤ length (take n xs) → take n (xs ++ x ∷ []) ≡ take n xs
take_full zero xs x l = refl
take_full (suc n) [] x l = absurd (omega (arith, l))
take_full (suc n) (y ∷ ys) x l = ap (λ zs. y ∷ zs) (take_full n ys x (omega (arith, l)))

-- what is kept of a field that is no longer than what is kept, and of a longer one
pub kept_short : (field : List ℕ) → length field ≤ 64 → field ≡ kept_field field
kept_short field l = sym (take_all 64 field l)

pub kept_long : (field : List ℕ) → 64 < length field → length (take 64 field) ≡ 64
kept_long field l = length-take-le 64 field (omega (arith, l))

-- a list that is no longer than this and isn't of this length is shorter
shorter : (n m : ℕ) → n ≤ m → (n == m) ≡ false → n < m
shorter n m l e = let other : n ≢ m = eqb-false n m e in omega (arith, l, other)

pub kept_byte : (old new field : List ℕ) (b : ℕ) (full : Bool) → full ≡ (length old == 64) → full ≡ false → length old ≤ 64 → new ≡ old ++ b ∷ [] → old ≡ kept_field field
    → new ≡ kept_field (field ++ b ∷ [])
kept_byte old new field b full is more fits w e =
    let size : length old ≡ length (take 64 field) = ap length e in
    let less : length old < 64 = shorter (length old) 64 fits (sym is ∙ more) in
    w ∙ ap (λ xs. xs ++ b ∷ []) e ∙ sym (take_less 64 field b (omega (arith, size, less)))

pub kept_full : (old field : List ℕ) (b : ℕ) (full : Bool) → full ≡ (length old == 64) → full ≡ true → old ≡ kept_field field → old ≡ kept_field (field ++ b ∷ [])
kept_full old field b full is all e =
    let most : length old ≡ 64 = eqb-true (length old) 64 (sym is ∙ all) in
    let size : length old ≡ length (take 64 field) = ap length e in
    e ∙ sym (take_full 64 field b (omega (arith, size, most)))

pub kept_more : (old new row : Fields) (f text : List ℕ) (full : Bool) → full ≡ (length old == 16) → full ≡ false → length old ≤ 16 → new ≡ old ++ f ∷ [] → old ≡ kept_row row → f ≡ kept_field text
    → new ≡ kept_row (row ++ text ∷ [])
kept_more old new row f text full is more fits w e k =
    let size : length old ≡ length (take 16 (map kept_field row)) = ap length e in
    let less : length old < 16 = shorter (length old) 16 fits (sym is ∙ more) in
    w ∙ (λ i. e i ++ k i ∷ []) ∙ sym (take_less 16 (map kept_field row) (kept_field text) (omega (arith, size, less)))
    ∙ sym (ap (take 16) (map-append kept_field row (text ∷ [])))

pub kept_all : (old row : Fields) (text : List ℕ) (full : Bool) → full ≡ (length old == 16) → full ≡ true → old ≡ kept_row row → old ≡ kept_row (row ++ text ∷ [])
kept_all old row text full is all e =
    let most : length old ≡ 16 = eqb-true (length old) 16 (sym is ∙ all) in
    let size : length old ≡ length (take 16 (map kept_field row)) = ap length e in
    e ∙ sym (take_full 16 (map kept_field row) (kept_field text) (omega (arith, size, most))) ∙ sym (ap (take 16) (map-append kept_field row (text ∷ [])))
