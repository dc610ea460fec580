-- What is entered of accounts of batches, as it is looked up, raised and entered.
use Rattle.std.proofs.Common.{◌≡◌, ◌∙◌, ◌+◌, ◌<◌, ℕ, zero, suc, Bool, true, false, List, [], ◌∷◌, ◌++◌, None, length, refl, sym, ap, subst, arith, if◌then◌else◌}
use Rattle.std.specs.Prelude.{nat_eq, slice_index_or, slice_set}
use Rattle.std.specs.Cmp.Lexicographic.{bytes_decides}
use Rattle.std.proofs.lemmas.Bool.{eqb-false, eqb-true, false_from_ne_true}
use Rattle.first_of_key.specs.declared.key.Key.{Key}
use Rattle.first_of_key.specs.First.{IsFirst, IsFirstOf, key_at}
use Rattle.rule_book.specs.Owed.{debtor_key, debtor_words, is_debtor, sum_of}

-- ---- keys

debtor_is : (n a : ℕ) (key : Key) → key ≡ debtor_key n a → is_debtor n a key ≡ true
debtor_is n a key e = (bytes_decides key.words (debtor_words n a)).1 (ap (λ (k : Key). k.words) e)

is_the_debtor : (n a : ℕ) (key : Key) → is_debtor n a key ≡ true → key ≡ debtor_key n a
is_the_debtor n a key e = λ i. record { words = (bytes_decides key.words (debtor_words n a)).0 e i }

no_debtor : (n a : ℕ) (key : Key) → (key ≡ debtor_key n a → ⊥) → is_debtor n a key ≡ false
no_debtor n a key ne = false_from_ne_true (is_debtor n a key) (λ e. ne (is_the_debtor n a key e))

-- the key of one account of a batch isn't another's
first_word : (n a m b : ℕ) → debtor_key n a ≡ debtor_key m b → n ≡ m
first_word n a m b e = ap (λ (k : Key). slice_index_or k.words 0 0) e

second_word : (n a m b : ℕ) → debtor_key n a ≡ debtor_key m b → a ≡ b
second_word n a m b e = ap (λ (k : Key). slice_index_or k.words 1 0) e

-- ---- the first key that passes

first_later : (k key : Key) (keys : List Key) (i : ℕ) → IsFirst (k ∷ keys) key (suc i) → IsFirst keys key i
first_later k key keys i f = record { within = (let l : suc i < suc (length keys) = f.within in omega (arith, l)); same = f.same; none_before = λ j l. f.none_before (suc j) (omega (arith, l)) }

pub sum_found : (n a i : ℕ) (keys : List Key) (sums : List ℕ) → IsFirst keys (debtor_key n a) i → length sums ≡ length keys → slice_index_or sums i 0 ≡ sum_of (is_debtor n a) keys sums
unfolding sum_of
sum_found n a i [] sums f e = absurd (let l : i < 0 = f.within in omega (arith, l))
sum_found n a i (k ∷ keys) [] f e = cc
sum_found n a zero (k ∷ keys) (s ∷ sums) f e = ap (λ b. if b then s else sum_of (is_debtor n a) keys sums) (sym (debtor_is n a k f.same))
sum_found n a (suc i) (k ∷ keys) (s ∷ sums) f e =
    sum_found n a i keys sums (first_later k (debtor_key n a) keys i f) (let l : suc (length sums) ≡ suc (length keys) = e in omega (arith, l))
    ∙ ap (λ b. if b then s else sum_of (is_debtor n a) keys sums) (sym (no_debtor n a k (f.none_before 0 (omega arith))))

pub sum_none : (n a : ℕ) (keys : List Key) (sums : List ℕ) → IsFirstOf keys (debtor_key n a) None → 0 ≡ sum_of (is_debtor n a) keys sums
unfolding sum_of
sum_none n a [] sums f = refl
sum_none n a (k ∷ keys) [] f = refl
sum_none n a (k ∷ keys) (s ∷ sums) f =
    sum_none n a keys sums (λ j l. f (suc j) (omega (arith, l)))
    ∙ ap (λ b. if b then s else sum_of (is_debtor n a) keys sums) (sym (no_debtor n a k (f 0 (omega arith))))

-- ---- a sum that is raised

set_same : (n a i x : ℕ) (keys : List Key) (sums : List ℕ) → IsFirst keys (debtor_key n a) i → length sums ≡ length keys → sum_of (is_debtor n a) keys (slice_set sums i x) ≡ x
unfolding sum_of
set_same n a i x [] sums f e = absurd (let l : i < 0 = f.within in omega (arith, l))
set_same n a i x (k ∷ keys) [] f e = cc
set_same n a zero x (k ∷ keys) (s ∷ sums) f e = ap (λ b. if b then x else sum_of (is_debtor n a) keys sums) (debtor_is n a k f.same)
set_same n a (suc i) x (k ∷ keys) (s ∷ sums) f e =
    ap (λ b. if b then s else sum_of (is_debtor n a) keys (slice_set sums i x)) (no_debtor n a k (f.none_before 0 (omega arith)))
    ∙ set_same n a i x keys sums (first_later k (debtor_key n a) keys i f) (let l : suc (length sums) ≡ suc (length keys) = e in omega (arith, l))

set_other : (test : Key → Bool) (i x : ℕ) (keys : List Key) (sums : List ℕ) → test (key_at keys i) ≡ false → sum_of test keys (slice_set sums i x) ≡ sum_of test keys sums
unfolding sum_of
set_other test i x [] sums e = refl
set_other test i x (k ∷ keys) [] e = refl
set_other test zero x (k ∷ keys) (s ∷ sums) e = ap (λ b. if b then x else sum_of test keys sums) e ∙ sym (ap (λ b. if b then s else sum_of test keys sums) e)
set_other test (suc i) x (k ∷ keys) (s ∷ sums) e = ap (λ y. if test k then s else y) (set_other test i x keys sums e)

plus_none : (x : ℕ) → x ≡ x + 0
plus_none x = omega arith

-- what is added to each, where only this account of this batch gets more
pub by_debtor : (n a m b x old new : ℕ) → (n ≡ m → a ≡ b → new ≡ old + x) → ((debtor_key n a ≡ debtor_key m b → ⊥) → new ≡ old) → new ≡ old + (if nat_eq n m then (if nat_eq a b then x else 0) else 0)
by_debtor n a m b x old new same other = by (nat_eq n m) (nat_eq a b) refl refl
  where
    by : (t u : Bool) → nat_eq n m ≡ t → nat_eq a b ≡ u → new ≡ old + (if nat_eq n m then (if nat_eq a b then x else 0) else 0)
    by true true p q = same (eqb-true n m p) (eqb-true a b q) ∙ (λ i. old + (if sym p i then (if sym q i then x else 0) else 0))
    by true false p q = other (λ e. eqb-false a b q (second_word n a m b e)) ∙ (plus_none old ∙ (λ i. old + (if sym p i then (if sym q i then x else 0) else 0)))
    by false u p q = other (λ e. eqb-false n m p (first_word n a m b e)) ∙ (plus_none old ∙ (λ i. old + (if sym p i then (if nat_eq a b then x else 0) else 0)))

pub sum_raised : (n a i x y : ℕ) (keys : List Key) (sums : List ℕ) → IsFirst keys (debtor_key n a) i → length sums ≡ length keys → y ≡ slice_index_or sums i 0 + x
    → (m b : ℕ) → sum_of (is_debtor m b) keys (slice_set sums i y) ≡ sum_of (is_debtor m b) keys sums + (if nat_eq n m then (if nat_eq a b then x else 0) else 0)
sum_raised n a i x y keys sums f e raised m b = by_debtor n a m b x (sum_of (is_debtor m b) keys sums) (sum_of (is_debtor m b) keys (slice_set sums i y))
    (λ p q. subst (λ j. sum_of (is_debtor j b) keys (slice_set sums i y) ≡ sum_of (is_debtor j b) keys sums + x) p (subst (λ j. sum_of (is_debtor n j) keys (slice_set sums i y) ≡ sum_of (is_debtor n j) keys sums + x) q own))
    (λ ne. set_other (is_debtor m b) i y keys sums (no_debtor m b (key_at keys i) (λ z. ne (sym f.same ∙ z))))
  where
    own : sum_of (is_debtor n a) keys (slice_set sums i y) ≡ sum_of (is_debtor n a) keys sums + x
    own = set_same n a i y keys sums f e ∙ (raised ∙ ap (λ s. s + x) (sum_found n a i keys sums f e))

-- ---- a key that is entered

entered_other : (test : Key → Bool) (key : Key) (x : ℕ) (keys : List Key) (sums : List ℕ) → test key ≡ false → length sums ≡ length keys → sum_of test (keys ++ key ∷ []) (sums ++ x ∷ []) ≡ sum_of test keys sums
unfolding sum_of
entered_other test key x [] [] e l = ap (λ b. if b then x else 0) e
entered_other test key x [] (s ∷ sums) e l = cc
entered_other test key x (k ∷ keys) [] e l = cc
entered_other test key x (k ∷ keys) (s ∷ sums) e l = ap (λ y. if test k then s else y) (entered_other test key x keys sums e (let z : suc (length sums) ≡ suc (length keys) = l in omega (arith, z)))

entered_own : (n a x : ℕ) (keys : List Key) (sums : List ℕ) → IsFirstOf keys (debtor_key n a) None → length sums ≡ length keys → sum_of (is_debtor n a) (keys ++ debtor_key n a ∷ []) (sums ++ x ∷ []) ≡ x
unfolding sum_of
entered_own n a x [] [] f l = ap (λ b. if b then x else 0) (debtor_is n a (debtor_key n a) refl)
entered_own n a x [] (s ∷ sums) f l = cc
entered_own n a x (k ∷ keys) [] f l = cc
entered_own n a x (k ∷ keys) (s ∷ sums) f l =
    ap (λ b. if b then s else sum_of (is_debtor n a) (keys ++ debtor_key n a ∷ []) (sums ++ x ∷ [])) (no_debtor n a k (f 0 (omega arith)))
    ∙ entered_own n a x keys sums (λ j h. f (suc j) (omega (arith, h))) (let z : suc (length sums) ≡ suc (length keys) = l in omega (arith, z))

pub sum_entered : (n a x : ℕ) (keys : List Key) (sums : List ℕ) → IsFirstOf keys (debtor_key n a) None → length sums ≡ length keys
    → (m b : ℕ) → sum_of (is_debtor m b) (keys ++ debtor_key n a ∷ []) (sums ++ x ∷ []) ≡ sum_of (is_debtor m b) keys sums + (if nat_eq n m then (if nat_eq a b then x else 0) else 0)
sum_entered n a x keys sums f l m b = by_debtor n a m b x (sum_of (is_debtor m b) keys sums) (sum_of (is_debtor m b) (keys ++ debtor_key n a ∷ []) (sums ++ x ∷ []))
    (λ p q. subst (λ j. sum_of (is_debtor j b) (keys ++ debtor_key n a ∷ []) (sums ++ x ∷ []) ≡ sum_of (is_debtor j b) keys sums + x) p
    (subst (λ j. sum_of (is_debtor n j) (keys ++ debtor_key n a ∷ []) (sums ++ x ∷ []) ≡ sum_of (is_debtor n j) keys sums + x) q own))
    (λ ne. entered_other (is_debtor m b) (debtor_key n a) x keys sums (no_debtor m b (debtor_key n a) ne) l)
  where
    own : sum_of (is_debtor n a) (keys ++ debtor_key n a ∷ []) (sums ++ x ∷ []) ≡ sum_of (is_debtor n a) keys sums + x
    own = let none = sum_none n a keys sums f in entered_own n a x keys sums f l ∙ (let e : x ≡ sum_of (is_debtor n a) keys sums + x = omega (arith, none) in e)

-- ---- as the code meets it: the key that it made, and the sum that it read

read_default : (sums : List ℕ) (i x y : ℕ) → i < length sums → slice_index_or sums i x ≡ slice_index_or sums i y
read_default [] i x y l = absurd (omega (arith, l))
read_default (s ∷ sums) zero x y l = refl
read_default (s ∷ sums) (suc i) x y l = read_default sums i x y (omega (arith, l))

-- the sum that stands at the key's number
pub sum_at_first : (n a i x : ℕ) (key : Key) (keys : List Key) (sums : List ℕ) → key ≡ debtor_key n a → IsFirst keys key i → length sums ≡ length keys → x ≡ slice_index_or sums i x → x ≡ slice_index_or sums i 0
sum_at_first n a i x key keys sums is f one_each got =
    let here : i < length keys = f.within in
    got ∙ read_default sums i x 0 (omega (arith, here, one_each))

pub sum_read : (n a i x : ℕ) (key : Key) (keys : List Key) (sums : List ℕ) → key ≡ debtor_key n a → IsFirst keys key i → length sums ≡ length keys → x ≡ slice_index_or sums i x → x ≡ sum_of (is_debtor n a) keys sums
sum_read n a i x key keys sums is f one_each got =
    sum_at_first n a i x key keys sums is f one_each got ∙ sum_found n a i keys sums (subst (λ k. IsFirst keys k i) is f) one_each

pub raised_at : (n a i x y : ℕ) (key : Key) (keys : List Key) (sums : List ℕ) → key ≡ debtor_key n a → IsFirst keys key i → length sums ≡ length keys → x ≡ slice_index_or sums i x
    → (m b : ℕ) → sum_of (is_debtor m b) keys (slice_set sums i (x + y)) ≡ sum_of (is_debtor m b) keys sums + (if nat_eq n m then (if nat_eq a b then y else 0) else 0)
raised_at n a i x y key keys sums is f one_each got =
    sum_raised n a i y (x + y) keys sums (subst (λ k. IsFirst keys k i) is f) one_each (ap (λ z. z + y) (sum_at_first n a i x key keys sums is f one_each got))

pub entered_at_end : (n a y : ℕ) (key : Key) (keys more : List Key) (sums longer : List ℕ) → key ≡ debtor_key n a → IsFirstOf keys key None → length sums ≡ length keys → more ≡ keys ++ key ∷ [] → longer ≡ sums ++ y ∷ []
    → (m b : ℕ) → sum_of (is_debtor m b) more longer ≡ sum_of (is_debtor m b) keys sums + (if nat_eq n m then (if nat_eq a b then y else 0) else 0)
entered_at_end n a y key keys more sums longer is f one_each mores longers m b =
    (λ i. sum_of (is_debtor m b) ((mores ∙ ap (λ k. keys ++ k ∷ []) is) i) (longers i)) ∙ sum_entered n a y keys sums (subst (λ k. IsFirstOf keys k None) is f) one_each m b
