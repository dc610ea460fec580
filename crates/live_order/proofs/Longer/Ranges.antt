-- Searches and tests over the numbers of a longer list, where what is after its front doesn't pass.
use Rattle.std.proofs.Common.{◌≡◌, ◌∙◌, ℕ, zero, suc, ◌+◌, ◌<◌, ◌≤◌, arith, Bool, true, false, ◌&&◌, ◌||◌, List, [], ◌∷◌, ◌++◌, length, Some, None, refl, cond}
use Rattle.std.specs.Prelude.{is_some, fold, slice_get}
use Rattle.std.specs.List.{find, list_all, list_any, range_with_len}
use Rattle.std.proofs.lemmas.Bool.{and_from, or_from}
use Rattle.machine.specs.Words.{numbered}

pub get_front : {X : Type 0} (xs ys : List X) (i : ℕ) → i < length xs → slice_get (xs ++ ys) i ≡ slice_get xs i
get_front [] ys i h = absurd (omega arith)
get_front (x ∷ xs) ys zero h = refl
get_front (x ∷ xs) ys (suc i) h = get_front xs ys i (omega arith)

pub numbered_front : {X : Type 0} (xs ys : List X) (n : ℕ) → n ≤ length xs → numbered (xs ++ ys) n ≡ numbered xs n
numbered_front xs ys zero h = refl
numbered_front xs ys (suc i) h = get_front xs ys i (omega arith)

-- ---- some number passes

any_past : {Y : Type 0} (p : ℕ → Bool) (s : ℕ) (ys : List Y) → ((n : ℕ) → s ≤ n → p n ≡ false) → list_any p (range_with_len s (length ys)) ≡ false
any_past p s [] none = refl
any_past p s (y ∷ ys) none = or_from (p s) _ (none s (omega arith)) (any_past p (s + 1) ys (λ n l. none n (omega arith)))

pub any_front : {X : Type 0} (p q : ℕ → Bool) (s : ℕ) (xs ys : List X) → ((n : ℕ) → n < s + length xs → p n ≡ q n) → ((n : ℕ) → s + length xs ≤ n → p n ≡ false) →
    list_any p (range_with_len s (length (xs ++ ys))) ≡ list_any q (range_with_len s (length xs))
any_front p q s [] ys same none = any_past p s ys (λ n l. none n (omega arith))
any_front p q s (x ∷ xs) ys same none =
    λ i. same s (omega arith) i || any_front p q (s + 1) xs ys (λ n l. same n (omega arith)) (λ n l. none n (omega arith)) i

-- ---- every number passes

all_past : {Y : Type 0} (p : ℕ → Bool) (s : ℕ) (ys : List Y) → ((n : ℕ) → s ≤ n → n < s + length ys → p n ≡ true) → list_all p (range_with_len s (length ys)) ≡ true
all_past p s [] none = refl
all_past p s (y ∷ ys) none = and_from (p s) _ (none s (omega arith) (omega arith)) (all_past p (s + 1) ys (λ n l m. none n (omega arith) (omega arith)))

pub all_front : {X : Type 0} (p q : ℕ → Bool) (s : ℕ) (xs ys : List X) → ((n : ℕ) → n < s + length xs → p n ≡ q n) →
    ((n : ℕ) → s + length xs ≤ n → n < (s + length xs) + length ys → p n ≡ true) →
    list_all p (range_with_len s (length (xs ++ ys))) ≡ list_all q (range_with_len s (length xs))
all_front p q s [] ys same none = all_past p s ys (λ n l m. none n (omega arith) (omega arith))
all_front p q s (x ∷ xs) ys same none =
    λ i. same s (omega arith) i && all_front p q (s + 1) xs ys (λ n l. same n (omega arith)) (λ n l m. none n (omega arith) (omega arith)) i

-- ---- the first number that passes

pub find_past : {Y : Type 0} (p : ℕ → Bool) (s : ℕ) (ys : List Y) → ((n : ℕ) → s ≤ n → n < s + length ys → p n ≡ false) → find p (range_with_len s (length ys)) ≡ None
find_past p s [] none = refl
find_past p s (y ∷ ys) none =
    (λ i. cond (none s (omega arith) (omega arith) i) (Some s) (find p (range_with_len (s + 1) (length ys))))
    ∙ find_past p (s + 1) ys (λ n l m. none n (omega arith) (omega arith))

pub find_front : {X : Type 0} (p q : ℕ → Bool) (s : ℕ) (xs ys : List X) → ((n : ℕ) → n < s + length xs → p n ≡ q n) →
    ((n : ℕ) → s + length xs ≤ n → n < (s + length xs) + length ys → p n ≡ false) →
    find p (range_with_len s (length (xs ++ ys))) ≡ find q (range_with_len s (length xs))
find_front p q s [] ys same none = find_past p s ys (λ n l m. none n (omega arith) (omega arith))
find_front p q s (x ∷ xs) ys same none =
    λ i. cond (same s (omega arith) i) (Some s) (find_front p q (s + 1) xs ys (λ n l. same n (omega arith)) (λ n l m. none n (omega arith) (omega arith)) i)

-- where the front has one, what is after it doesn't matter
pub find_first : {X : Type 0} (p q : ℕ → Bool) (s : ℕ) (xs ys : List X) → ((n : ℕ) → n < s + length xs → p n ≡ q n) → is_some (find q (range_with_len s (length xs))) ≡ true →
    find p (range_with_len s (length (xs ++ ys))) ≡ find q (range_with_len s (length xs))
find_first p q s [] ys same found = cc
find_first p q s (x ∷ xs) ys same found =
    (λ i. cond (same s (omega arith) i) (Some s) (find p (range_with_len (s + 1) (length (xs ++ ys)))))
    ∙ here (q s) found (find_first p q (s + 1) xs ys (λ n l. same n (omega arith)))
  where
    here : (b : Bool) → is_some (cond b (Some s) (find q (range_with_len (s + 1) (length xs)))) ≡ true →
        (is_some (find q (range_with_len (s + 1) (length xs))) ≡ true → find p (range_with_len (s + 1) (length (xs ++ ys))) ≡ find q (range_with_len (s + 1) (length xs))) →
        cond b (Some s) (find p (range_with_len (s + 1) (length (xs ++ ys)))) ≡ cond b (Some s) (find q (range_with_len (s + 1) (length xs)))
    here true h later = refl
    here false h later = later h

-- ---- folds

fold_past : {A Y : Type 0} (f : A → ℕ → A) (a : A) (s : ℕ) (ys : List Y) → ((c : A) (n : ℕ) → s ≤ n → f c n ≡ c) → fold f a (range_with_len s (length ys)) ≡ a
fold_past f a s [] none = refl
fold_past f a s (y ∷ ys) none = fold_past f (f a s) (s + 1) ys (λ c n l. none c n (omega arith)) ∙ none a s (omega arith)

pub fold_front : {A X : Type 0} (f g : A → ℕ → A) (a : A) (s : ℕ) (xs ys : List X) → ((c : A) (n : ℕ) → n < s + length xs → f c n ≡ g c n) → ((c : A) (n : ℕ) → s + length xs ≤ n → f c n ≡ c) →
    fold f a (range_with_len s (length (xs ++ ys))) ≡ fold g a (range_with_len s (length xs))
fold_front f g a s [] ys same none = fold_past f a s ys (λ c n l. none c n (omega arith))
fold_front f g a s (x ∷ xs) ys same none =
    (λ i. fold f (same a s (omega arith) i) (range_with_len (s + 1) (length (xs ++ ys))))
    ∙ fold_front f g (g a s) (s + 1) xs ys (λ c n l. same c n (omega arith)) (λ c n l. none c n (omega arith))

-- the same, where it is enough that the steps agree on what some test keeps to
pub fold_front_with : {A X : Type 0} (Q : A → Type 0) (f g : A → ℕ → A) (a : A) (s : ℕ) (xs ys : List X) → Q a →
    ((c : A) (n : ℕ) → n < s + length xs → Q c → f c n ≡ g c n) → ((c : A) (n : ℕ) → n < s + length xs → Q c → Q (g c n)) → ((c : A) (n : ℕ) → s + length xs ≤ n → f c n ≡ c) →
    fold f a (range_with_len s (length (xs ++ ys))) ≡ fold g a (range_with_len s (length xs))
fold_front_with Q f g a s [] ys q same keeps none = fold_past f a s ys (λ c n l. none c n (omega arith))
fold_front_with Q f g a s (x ∷ xs) ys q same keeps none =
    (λ i. fold f (same a s (omega arith) q i) (range_with_len (s + 1) (length (xs ++ ys))))
    ∙ fold_front_with Q f g (g a s) (s + 1) xs ys (keeps a s (omega arith) q) (λ c n l. same c n (omega arith)) (λ c n l. keeps c n (omega arith)) (λ c n l. none c n (omega arith))

pub fold_same_with : {A : Type 0} (Q : A → Type 0) (f g : A → ℕ → A) → ((c : A) (n : ℕ) → Q c → f c n ≡ g c n) → ((c : A) (n : ℕ) → Q c → Q (g c n)) →
    (a : A) (ns : List ℕ) → Q a → fold f a ns ≡ fold g a ns
fold_same_with Q f g same keeps a [] q = refl
fold_same_with Q f g same keeps a (n ∷ ns) q = (λ i. fold f (same a n q i) ns) ∙ fold_same_with Q f g same keeps (g a n) ns (keeps a n q)

-- what is found is one of the numbers
pub find_within : {X : Type 0} (q : ℕ → Bool) (s : ℕ) (xs : List X) (b : ℕ) → find q (range_with_len s (length xs)) ≡ Some b → b < s + length xs
find_within q s [] b e = cc
find_within q s (x ∷ xs) b e = here (q s) e (find_within q (s + 1) xs b)
  where
    here : (t : Bool) → cond t (Some s) (find q (range_with_len (s + 1) (length xs))) ≡ Some b → (find q (range_with_len (s + 1) (length xs)) ≡ Some b → b < (s + 1) + length xs) → b < s + length (x ∷ xs)
    here true h later = let same : s ≡ b = cc in omega arith
    here false h later = let l = later h in omega (arith, l)
