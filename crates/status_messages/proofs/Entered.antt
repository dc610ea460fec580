-- Entering numbers into a set, going over it, and clearing it.
use Rattle.std.proofs.Common.{◌≡◌, ◌∙◌, ℕ, zero, suc, ◌+◌, ◌-◌, ◌≤◌, ◌<◌, Bool, true, false, ◌||◌, List, [], ◌∷◌, ◌++◌, append_assoc, Some, refl, sym, ap, subst, arith, length, get_or, slice_set, replicate, get_or-set_same, get_or-set_other, take, ◌⊎◌, inl, inr}
use Rattle.std.specs.Prelude.{filter, nat_eq}
use Rattle.std.specs.List.{flat_map, list_any, range_with_len}
use Rattle.std.proofs.lemmas.Bool.{cases_eq, cases_lt, eq-eqb, ne_eqb, or_right}
use Rattle.std.proofs.lemmas.Grind.{flat_map-append}
use Rattle.std.proofs.lemmas.List.{ext_get_or, get_or_past, length-replicate, get_or-replicate, take_more, append-nil}
use Rattle.std.proofs.lemmas.List.Elements.{filter-append}
use Rattle.std.proofs.lemmas.List.Folds.{list_any-append}
use Rattle.number_set.specs.Members.{IsEmpty, has}
use Rattle.number_set.specs.Next.{IsLeast}
use Rattle.number_set.proofs.WalkLemmas.{next_member}
use Rattle.machine.specs.Words.{same_account}
use Rattle.settlement_laws.proofs.Base.LinesOf.{or_none}

-- ---- entering

-- where a number is found it is a member then
pub entered : (old new : List Bool) (n a : ℕ) → n < length old → new ≡ slice_set old n true → has new a ≡ (has old a || same_account (Some n) (Some a))
entered old new n a within e = ap (λ set. has set a) e ∙ here (cases_eq a n)
  where
    here : (a ≡ n) ⊎ (a ≡ n → ⊥) → has (slice_set old n true) a ≡ (has old a || nat_eq n a)
    here (inl q) =
        subst (λ k. has (slice_set old n true) k ≡ true) (sym q) (get_or-set_same old n true false within)
        ∙ sym (or_right (has old a) (nat_eq n a) (eq-eqb n a (sym q)))
    here (inr ne) = get_or-set_other old n a true false ne ∙ sym (or_none (has old a) (nat_eq n a) (ne_eqb n a (λ q. ne (sym q))))

pub not_entered : (old : List Bool) (a : ℕ) (b : Bool) → b ≡ false → has old a ≡ (has old a || b)
not_entered old a b e = sym (or_none (has old a) b e)

or_assoc : (a b c : Bool) → ((a || b) || c) ≡ (a || (b || c))
or_assoc true b c = refl
or_assoc false b c = refl

-- ---- all of a list

any_more : {X : Type 0} (p : X → Bool) (xs : List X) (i : ℕ) (x : X) → i < length xs → x ≡ get_or xs i x → (list_any p (take i xs) || p x) ≡ list_any p (take (i + 1) xs)
any_more p xs i x within at =
    sym (ap (list_any p) (take_more xs i x within ∙ ap (λ y. take i xs ++ y ∷ []) (sym at)) ∙ list_any-append p (take i xs) (x ∷ []) ∙ ap (λ b. list_any p (take i xs) || b) (last (p x)))
  where
    last : (b : Bool) → (b || false) ≡ b
    last true = refl
    last false = refl

pub all_more : {X : Type 0} (p : X → Bool) (xs : List X) (i : ℕ) (x : X) (o h n : Bool) → i < length xs → x ≡ get_or xs i x → h ≡ (o || list_any p (take i xs)) → n ≡ (h || p x) → n ≡ (o || list_any p (take (i + 1) xs))
all_more p xs i x o h n within at e f = f ∙ ap (λ b. b || p x) e ∙ or_assoc o (list_any p (take i xs)) (p x) ∙ ap (λ b. o || b) (any_more p xs i x within at)

-- ---- going over the members

range_split : (s a b : ℕ) → range_with_len s (a + b) ≡ range_with_len s a ++ range_with_len (s + a) b
range_split s zero b =
    let z : 0 + b ≡ b = omega arith in
    let e : s ≡ s + 0 = omega arith in
    ap (range_with_len s) z ∙ ap (λ n. range_with_len n b) e
range_split s (suc a) b =
    let e : suc a + b ≡ suc (a + b) = omega arith in
    let f : (s + 1) + a ≡ s + suc a = omega arith in
    ap (range_with_len s) e ∙ ap (λ xs. s ∷ xs) (range_split (s + 1) a b ∙ ap (λ n. range_with_len (s + 1) a ++ range_with_len n b) f)

-- the texts of the members below a number, and those of the others
pub members_front : (p : ℕ → Bool) (f : ℕ → List ℕ) (len i : ℕ) → i ≤ len → (rest : List ℕ) × (flat_map f (filter p (range_with_len 0 i)) ++ rest ≡ flat_map f (filter p (range_with_len 0 len)))
members_front p f len i within =
    let more = range_with_len (0 + i) (len - i) in
    let e : i + (len - i) ≡ len = omega arith in (
      flat_map f (filter p more),
      sym (ap (λ n. flat_map f (filter p (range_with_len 0 n))) (sym e)
          ∙ ap (λ xs. flat_map f (filter p xs)) (range_split 0 i (len - i))
          ∙ ap (flat_map f) (filter-append p (range_with_len 0 i) more)
          ∙ flat_map-append f (filter p (range_with_len 0 i)) (filter p more)),
    )

pub member_next : (p : ℕ → Bool) (f : ℕ → List ℕ) (at n : ℕ) → IsLeast p at n → flat_map f (filter p (range_with_len 0 at)) ++ f n ≡ flat_map f (filter p (range_with_len 0 (n + 1)))
member_next p f at n least =
    let before = filter p (range_with_len 0 at) in
    sym (ap (flat_map f) (next_member p at n least) ∙ flat_map-append f before (n ∷ []) ∙ ap (λ t. flat_map f before ++ t) (append-nil (f n)))

pub member_parts : (p : ℕ → Bool) (f : ℕ → List ℕ) (len at n : ℕ) → IsLeast p at n → n < len → (rest : List ℕ) × (flat_map f (filter p (range_with_len 0 at)) ++ (f n ++ rest) ≡ flat_map f (filter p (range_with_len 0 len)))
member_parts p f len at n least within =
    let front = members_front p f len (n + 1) (omega arith) in
    (front.0, sym (append_assoc (flat_map f (filter p (range_with_len 0 at))) (f n) front.0) ∙ ap (λ t. t ++ front.0) (member_next p f at n least) ∙ front.1)

-- ---- clearing

pub cleared : (set : List Bool) (bound : ℕ) → length set ≡ bound → ((k : ℕ) → has set k ≡ false) → set ≡ replicate bound false
cleared set bound len none =
    let other : length (replicate bound false) ≡ bound = length-replicate bound false in
    ext_get_or false set (replicate bound false) (omega arith) (λ k within.
    let inside : k < bound = omega arith in
    none k ∙ sym (get_or-replicate bound k false false inside))

-- the next member is removed, and none is left up to it
pub cleared_more : (old new : List Bool) (at n : ℕ) → n < length old → IsLeast (has old) at n → new ≡ slice_set old n false → ((k : ℕ) → k < at → has old k ≡ false) → (k : ℕ) → k < n + 1 → has new k ≡ false
cleared_more old new at n within least e before k low = ap (λ set. has set k) e ∙ here (cases_eq k n)
  where
    earlier : (k ≡ n → ⊥) → (k < at) ⊎ (at ≤ k) → has old k ≡ false
    earlier ne (inl l) = before k l
    earlier ne (inr l) = least.none_before k l (omega (arith, ne))

    here : (k ≡ n) ⊎ (k ≡ n → ⊥) → has (slice_set old n false) k ≡ false
    here (inl q) = subst (λ i. has (slice_set old n false) i ≡ false) (sym q) (get_or-set_same old n false false within)
    here (inr ne) = get_or-set_other old n k false false ne ∙ earlier ne (cases_lt k at)

pub cleared_all : (set : List Bool) (at : ℕ) → ((k : ℕ) → k < at → has set k ≡ false) → ((k : ℕ) → at ≤ k → has set k ≡ false) → (k : ℕ) → has set k ≡ false
cleared_all set at before after k = here (cases_lt k at)
  where
    here : (k < at) ⊎ (at ≤ k) → has set k ≡ false
    here (inl l) = before k l
    here (inr l) = after k l

-- ---- a set of no members, with room

pub replicate_none : (bound k : ℕ) → has (replicate bound false) k ≡ false
replicate_none bound k = here (cases_lt k bound)
  where
    here : (k < bound) ⊎ (bound ≤ k) → has (replicate bound false) k ≡ false
    here (inl l) = get_or-replicate bound k false false l
    here (inr l) = get_or_past (replicate bound false) k false (let e = length-replicate bound false in omega (arith, e))

pub made_empty : (set : List Bool) (bound : ℕ) → set ≡ replicate bound false → IsEmpty set
made_empty set bound e k = ap (λ flags. has flags k) e ∙ replicate_none bound k

pub made_long : (set : List Bool) (bound n : ℕ) → set ≡ replicate bound false → n < bound → n < length set
made_long set bound n e low = subst (λ size. n < size) (sym (ap length e ∙ length-replicate bound false)) low
