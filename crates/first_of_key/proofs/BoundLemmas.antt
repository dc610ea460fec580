-- What comes to a node after as many steps as all bits of a key take has its key.
use Rattle.std.proofs.Common.{◌≡◌, ◌≢◌, ℕ, ◌+◌, ◌-◌, ◌*◌, ◌/◌, ◌%◌, ◌<◌, ◌≤◌, Bool, false, eqb, cond, List, length, refl, ap, sym, ◌∙◌, ⊎_elim, eq-eqb, arith, nat_lt}
use Rattle.std.specs.Int.{bit_at}
use Rattle.std.proofs.lemmas.Bool.{cases_eq, eqb-true, le-ltb}
use Rattle.std.proofs.lemmas.Nat.Bits.{bit_at-lt, same_from_bits_below}
use Rattle.std.proofs.lemmas.Grind.{same_number_lists}
use Rattle.first_of_key.specs.declared.key.Key.{Key}
use Rattle.first_of_key.specs.Sides.{side, word, word_at, mixed, IsWhole}
use Rattle.first_of_key.specs.Paths.{Tree, node_at, reached, IsSearchable, IsAt}

-- a bit of a word tells the side at a depth of its own
side_is : (key : Key) (w b d : ℕ) → w < 6 → b < 64 → d ≡ 64 + 64 * w + (63 - b) → side key d ≡ eqb (bit_at (word key w) b) 1
unfolding side word_at
side_is key w b d within inner is =
    let behind : nat_lt d 64 ≡ false = le-ltb d 64 (omega arith) in
    let place : (d / 64 - 1) % 6 ≡ w = omega arith in
    let bit : 63 - d % 64 ≡ b = omega arith in
    ap (λ (t : Bool). eqb (bit_at (cond t (mixed key) (word key ((d / 64 - 1) % 6))) (63 - d % 64)) 1) behind
    ∙ (ap (λ (i : ℕ). eqb (bit_at (word key i) (63 - d % 64)) 1) place
    ∙ ap (λ (i : ℕ). eqb (bit_at (word key w) i) 1) bit)

same_bit : (x y : ℕ) → x < 2 → y < 2 → eqb x 1 ≡ eqb y 1 → x ≡ y
same_bit x y small other e =
    ⊎_elim
    (λ (h : x ≡ 1). let one : y ≡ 1 = eqb-true y 1 (sym e ∙ eq-eqb x 1 h) in omega arith)
    (λ (h : x ≢ 1).
    ⊎_elim
    (λ (k : y ≡ 1). let one : x ≡ 1 = eqb-true x 1 (e ∙ eq-eqb y 1 k) in omega arith)
    (λ (k : y ≢ 1). omega arith)
    (cases_eq y 1))
    (cases_eq x 1)

same_words : (p q : Key) → IsWhole p → IsWhole q → ((i : ℕ) → i < 448 → side p i ≡ side q i) → p ≡ q
same_words p q whole other sides =
    let words : p.words ≡ q.words =
    same_number_lists p.words q.words (whole.six ∙ sym other.six) (λ w within.
    let inner : w < 6 = (let six : length p.words ≡ 6 = whole.six in omega arith) in
    same_from_bits_below 64 (word p w) (word q w) (whole.small w inner) (other.small w inner) (λ b below.
    let d : ℕ = 64 + 64 * w + (63 - b) in
    same_bit (bit_at (word p w) b) (bit_at (word q w) b) (bit_at-lt (word p w) b) (bit_at-lt (word q w) b)
    (sym (side_is p w b d inner below refl) ∙ (sides d (omega arith) ∙ side_is q w b d inner below refl)))) in
    let made : List ℕ → Key = λ ws. record { words = ws } in
    ap made words

pub same_key : (t : Tree) (key : Key) (at depth : ℕ) → 448 ≤ depth → IsSearchable t → IsWhole key → IsAt t key at depth → (node_at t at).key ≡ key
same_key t key at depth deep s whole here =
    let is : at ≡ reached t key depth = here.is in
    let within : at < length t.nodes = here.within in
    same_words (node_at t at).key key (s.whole at within) whole (λ i before.
    ap (λ (j : ℕ). side (node_at t j).key i) is ∙ s.along key depth i (omega arith) (omega arith))
