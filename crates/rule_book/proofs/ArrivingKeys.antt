-- Keys of one batch, put after those of the batches before it.
use Rattle.std.proofs.Common.{◌≡◌, ◌∙◌, ◌+◌, ◌-◌, ◌<◌, ◌≤◌, ℕ, Bool, true, false, ◌||◌, List, [], ◌∷◌, ◌++◌, None, Option, Some, get_or, length, length-append, refl, sym, ap, subst, arith, ⊎_elim}
use Rattle.std.specs.Prelude.{nat_eq, slice_index}
use Rattle.std.specs.Ordering.{is_lt, nat_cmp}
use Rattle.std.specs.declared.cmp.Ordering.TheVariants.{Equal, Greater}
use Rattle.std.specs.Cmp.{nat_cmp_is}
use Rattle.std.specs.List.Sorted.{IsSorted}
use Rattle.std.proofs.lemmas.Bool.{cases_lt, eq-eqb, eqb-true, or_left, or_right}
use Rattle.std.proofs.lemmas.List.{get_or_append_left, get_or-append_right, get_or_default}
use Rattle.std.proofs.lemmas.List.Folds.{list_any-append, list_any_at}
use Rattle.batch_records.specs.DayRecord.{Day}
use Rattle.commit_journal.specs.declared.line.Move.{Move}
use Rattle.rule_book.specs.Parties.{Adds, AreBefore, AreListed, AreOf, Arrived, bank_number, is_informed, is_joined, is_listed, key}
use Rattle.rule_book.proofs.PartyFacts.{kept_there, new_there}

-- ---- keys of a batch, one by one

pub adds_nothing : (n : ℕ) (xs : List ℕ) → Adds n xs xs
adds_nothing n xs = record { keeps = λ x h. h; of_batch = λ h. h }

pub adds_then : (n : ℕ) (xs ys zs : List ℕ) → Adds n xs ys → Adds n ys zs → Adds n xs zs
adds_then n xs ys zs a b = record { keeps = λ x h. b.keeps x (a.keeps x h); of_batch = λ h. b.of_batch (a.of_batch h) }

one_of : (xs : List ℕ) (y x : ℕ) → is_listed (xs ++ y ∷ []) x ≡ true → (is_listed xs x ≡ false → x ≡ y)
one_of xs y x h missing = by (is_listed xs x) (nat_eq x y) (sym (list_any-append (nat_eq x) xs (y ∷ [])) ∙ h) missing refl
  where
    by : (a b : Bool) → (a || (b || false)) ≡ true → a ≡ false → nat_eq x y ≡ b → x ≡ y
    by true b g e p = cc
    by false true g e p = eqb-true x y p
    by false false g e p = cc

of_both : (n : ℕ) (xs : List ℕ) (y : ℕ) → key n 0 0 ≤ y → y < key (n + 1) 0 0 → AreOf n xs → AreOf n (xs ++ y ∷ [])
of_both n xs y low high h = λ x l. by x (is_listed xs x) refl l
  where
    by : (x : ℕ) (b : Bool) → is_listed xs x ≡ b → is_listed (xs ++ y ∷ []) x ≡ true → (key n 0 0 ≤ x) × (x < key (n + 1) 0 0)
    by x true e l = h x e
    by x false e l = let same : x ≡ y = one_of xs y x l e in (omega (arith, low, same), omega (arith, high, same))

pub adds_key : (n b k y : ℕ) (xs ys : List ℕ) → b < 65536 → k < 65536 → y ≡ key n b k → ys ≡ xs ++ y ∷ [] → Adds n xs ys
adds_key n b k y xs ys few small is more = record {
  keeps = λ x h. kept_there xs ys y x more h;
  of_batch = λ h. subst (AreOf n) (sym more) (of_both n xs y (omega (arith, is)) (omega (arith, is, few, small)) h);
}

pub key_there : (n b k y : ℕ) (xs ys : List ℕ) → y ≡ key n b k → ys ≡ xs ++ y ∷ [] → is_listed ys (key n b k) ≡ true
key_there n b k y xs ys is more = subst (λ x. is_listed ys x ≡ true) is (new_there xs ys y more)

-- the banks that own the two accounts of a move
pub both_sides : (n k d c b : ℕ) (ys zs : List ℕ) → (nat_eq d 0 ≡ false → is_listed ys (key n d k) ≡ true) → (nat_eq c 0 ≡ false → is_listed zs (key n c k) ≡ true)
    → ((x : ℕ) → is_listed ys x ≡ true → is_listed zs x ≡ true) → nat_eq b 0 ≡ false → (nat_eq d b || nat_eq c b) ≡ true → is_listed zs (key n b k) ≡ true
both_sides n k d c b ys zs first second keeps some h = by (nat_eq d b) refl h
  where
    by : (t : Bool) → nat_eq d b ≡ t → (t || nat_eq c b) ≡ true → is_listed zs (key n b k) ≡ true
    by true e q = subst (λ x. nat_eq x 0 ≡ false → is_listed zs (key n x k) ≡ true) (eqb-true d b e) (λ s. keeps (key n d k) (first s)) some
    by false e q = subst (λ x. nat_eq x 0 ≡ false → is_listed zs (key n x k) ≡ true) (eqb-true c b q) second some

pub none_joined : (numbers : List ℕ) (b : ℕ) (found : Option Move) → found ≡ None → is_joined numbers b found ≡ true → ⊥
none_joined numbers b None e h = cc
none_joined numbers b (Some m) e h = cc

pub of_none : (n : ℕ) (xs : List ℕ) → xs ≡ [] → AreOf n xs
of_none n xs e = subst (AreOf n) (sym e) (λ x h. cc)

pub of_same : (n : ℕ) (xs ys : List ℕ) → ((x : ℕ) → is_listed ys x ≡ is_listed xs x) → AreOf n xs → AreOf n ys
of_same n xs ys same h = λ x l. h x (sym (same x) ∙ l)

-- ---- two lists in order

no_less : (x y : ℕ) → x ≤ y → is_lt (nat_cmp y x) ≡ false
no_less x y l = ⊎_elim
    (λ (h : x < y). ap is_lt (sym (nat_cmp_is y x Greater h)))
    (λ (h : y ≤ x). let e : y ≡ x = omega (arith, l, h) in ap is_lt (sym (nat_cmp_is y x Equal e)))
    (cases_lt x y)

pub in_order : (xs ys : List ℕ) → IsSorted nat_cmp xs → IsSorted nat_cmp ys → ((i j : ℕ) → i < length xs → j < length ys → slice_index xs i ≤ slice_index ys j) → IsSorted nat_cmp (xs ++ ys)
in_order xs ys a b below = λ k d low high. ⊎_elim
    (λ (l : k + 1 < length xs).
    (λ i. is_lt (nat_cmp (get_or_append_left xs ys d (k + 1) l i) (get_or_append_left xs ys d k (omega (arith, l)) i))) ∙ a k d low l)
    (λ (m : length xs ≤ k + 1). ⊎_elim
    (λ (l : k < length xs).
    let size = length-append xs ys in
    let inside : k + 1 - length xs < length ys = omega (arith, high, m, size) in
    let left = get_or_append_left xs ys d k l ∙ get_or_default xs k d 0 l in
    let right = get_or-append_right xs ys (length xs) (k + 1) d refl m ∙ get_or_default ys (k + 1 - length xs) d 0 inside in
    (λ i. is_lt (nat_cmp (right i) (left i))) ∙ no_less (slice_index xs k) (slice_index ys (k + 1 - length xs)) (below k (k + 1 - length xs) l inside))
    (λ (l : length xs ≤ k).
    let size = length-append xs ys in
    let at : k + 1 - length xs ≡ (k - length xs) + 1 = omega (arith, l) in
    let left = get_or-append_right xs ys (length xs) k d refl l in
    let right = get_or-append_right xs ys (length xs) (k + 1) d refl m ∙ ap (λ i. get_or ys i d) at in
    (λ i. is_lt (nat_cmp (right i) (left i))) ∙ b (k - length xs) d (omega arith) (omega (arith, high, l, size)))
    (cases_lt k (length xs)))
    (cases_lt (k + 1) (length xs))

-- ---- a whole batch

before_next : (n x : ℕ) → x < key n 0 0 → x < key (n + 1) 0 0
before_next n x l = omega (arith, l)

pub before_more : (n : ℕ) (keys own new : List ℕ) → AreBefore n keys → AreOf n own → new ≡ keys ++ own → AreBefore (n + 1) new
before_more n keys own new before of is = λ x l. by x (is_listed keys x) refl (sym (list_any-append (nat_eq x) keys own) ∙ ap (λ xs. is_listed xs x) (sym is) ∙ l)
  where
    by : (x : ℕ) (b : Bool) → is_listed keys x ≡ b → (is_listed keys x || is_listed own x) ≡ true → x < key (n + 1) 0 0
    by x true e l = before_next n x (before x e)
    by x false e l = (of x (ap (λ b. b || is_listed own x) (sym e) ∙ l)).1

pub kept_in_front : (keys own new : List ℕ) → new ≡ keys ++ own → (x : ℕ) → is_listed keys x ≡ true → is_listed new x ≡ true
kept_in_front keys own new is x h = ap (λ xs. is_listed xs x) is ∙ list_any-append (nat_eq x) keys own ∙ or_left (is_listed keys x) (is_listed own x) h

pub own_behind : (keys own new : List ℕ) → new ≡ keys ++ own → (x : ℕ) → is_listed own x ≡ true → is_listed new x ≡ true
own_behind keys own new is x h = ap (λ xs. is_listed xs x) is ∙ list_any-append (nat_eq x) keys own ∙ or_right (is_listed keys x) (is_listed own x) h

-- those of the batch, in order or not
pub listed_own : (day : Day) (n : ℕ) (keys own sorted new : List ℕ) → new ≡ keys ++ sorted → ((x : ℕ) → is_listed sorted x ≡ is_listed own x) → AreListed day own n → AreListed day new n
listed_own day n keys own sorted new is same listed = λ k bank some party.
    own_behind keys sorted new is (key n (bank_number day bank) k) (same (key n (bank_number day bank) k) ∙ listed k bank some party)

at_place : (xs : List ℕ) (i : ℕ) → i < length xs → is_listed xs (slice_index xs i) ≡ true
at_place xs i l = list_any_at (nat_eq (slice_index xs i)) xs i 0 l (eq-eqb (slice_index xs i) (get_or xs i 0) refl)

pub rising_more : (n : ℕ) (keys own new : List ℕ) → IsSorted nat_cmp keys → IsSorted nat_cmp own → AreBefore n keys → AreOf n own → new ≡ keys ++ own → IsSorted nat_cmp new
rising_more n keys own new a b before of is = subst (IsSorted nat_cmp) (sym is) (in_order keys own a b
    (λ i j l m.
    let low = before (slice_index keys i) (at_place keys i l) in
    let high = (of (slice_index own j) (at_place own j m)).0 in
    omega (arith, low, high)))

pub arrived : (day : Day) (n : ℕ) (keys none own sorted shown new : List ℕ) → none ≡ [] → Adds n none own → (is_informed day n ≡ true → AreListed day own n) → IsSorted nat_cmp sorted
    → ((x : ℕ) → is_listed sorted x ≡ is_listed own x) → shown ≡ sorted → new ≡ keys ++ shown → AreBefore n keys → IsSorted nat_cmp keys → Arrived day n keys new
arrived day n keys none own sorted shown new e adds lists up same seen is before rising =
    let all : new ≡ keys ++ sorted = is ∙ ap (λ xs. keys ++ xs) seen in
    let of = of_same n own sorted same (adds.of_batch (of_none n none e)) in
    record {
      keeps = kept_in_front keys sorted new all;
      lists = λ h. listed_own day n keys own sorted new all same (lists h);
      before = before_more n keys sorted new before of all;
      rising = rising_more n keys sorted new rising up before of all;
    }
