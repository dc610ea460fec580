-- Candidates show what is next, and stay candidates of the accounts that a line leaves alone.
use Rattle.std.proofs.Common.{◌≡◌, ℕ, ◌+◌, ◌<◌, ◌≤◌, Bool, true, false, ◌&&◌, Option, Some, None, refl, sym, ap, ◌∙◌, subst, arith, ⊎_elim, ◌⊎◌, inl, inr}
use Rattle.std.proofs.lemmas.Bool.{and_parts, and_from, and_left, and_right, both_ways, false_from_ne_true, cases_Bool, cases_eq, cases_lt}
use Rattle.scan_laws.specs.Next.{IsNext, IsPassed, comes_by, Represents}
use Rattle.scan_laws.specs.Candidates.{IsFirstRound, ready_on, HasCandidates, FindsAnew}
use Rattle.scan_laws.proofs.NextFacts.{By, comes_by-true, comes_by-from, comes_by-later, next-seen}

-- ---- how a candidate is found: the next one from p on, and where there is none, the first of all

pub first-next : (test : ℕ → Bool) (p y : ℕ) → IsNext test p (Some y) → IsFirstRound test p (Some y)
first-next test p y n = (n.passes, λ x t. comes_by-from p x y (go x t))
  where
    go : (x : ℕ) → test x ≡ true → By p x y
    go x t =
        ⊎_elim
        (λ (l : x < p). inr (l, inl n.at_least))
        (λ (l : p ≤ x).
        ⊎_elim
        (λ (a : x < y). absurd (both_ways (test x) (n.none_before x l a) t))
        (λ (a : y ≤ x). inl (n.at_least, a))
        (cases_lt x y))
        (cases_lt x p)

pub first-turned : (test : ℕ → Bool) (p : ℕ) (o : Option ℕ) → IsNext test p None → IsNext test 0 o → IsFirstRound test p o
first-turned test p None none n = λ x. n x (omega arith)
first-turned test p (Some y) none n = (n.passes, λ x t. comes_by-from p x y (go x t))
  where
    go : (x : ℕ) → test x ≡ true → By p x y
    go x t =
        ⊎_elim
        (λ (l : x < p).
        ⊎_elim
        (λ (a : x < y). absurd (both_ways (test x) (n.none_before x (omega arith) a) t))
        (λ (a : y ≤ x). inr (l, inr a))
        (cases_lt x y))
        (λ (l : p ≤ x). absurd (both_ways (test x) (none x l) t))
        (cases_lt x p)

-- ---- how it stays

-- a later place, where nothing that passes lies between
first-later : (test : ℕ → Bool) (p q : ℕ) (o : Option ℕ) → p ≤ q → ((k : ℕ) → p ≤ k → k < q → test k ≡ false) → IsFirstRound test p o → IsFirstRound test q o
first-later test p q None l none f = f
first-later test p q (Some y) l none f = (f.0, λ x t. comes_by-later p q x y l (apart x t) (apart y f.0) (f.1 x t))
  where
    apart : (x : ℕ) → test x ≡ true → (x < p) ⊎ (q ≤ x)
    apart x t =
        ⊎_elim
        (λ (a : x < p). inl a)
        (λ (a : p ≤ x). ⊎_elim (λ (b : x < q). absurd (both_ways (test x) (none x a b) t)) (λ (b : q ≤ x). inr b) (cases_lt x q))
        (cases_lt x p)

-- tests that pass the same numbers
first-same : (test other : ℕ → Bool) (p : ℕ) (o : Option ℕ) → ((k : ℕ) → test k ≡ other k) → IsFirstRound test p o → IsFirstRound other p o
first-same test other p o e f = subst (λ g. IsFirstRound g p o) (λ i k. e k i) f

-- the line of x, the next item that was ready, leaves the candidate of an account on which x doesn't stand and where the same is ready after it
pub candidate-kept : (ready later : ℕ → Bool) (stands : ℕ → ℕ → Bool) (p x a : ℕ) (o : Option ℕ) → IsNext ready p (Some x) → stands a x ≡ false → ((k : ℕ) → stands a k ≡ true → later k ≡ ready k) → IsFirstRound (ready_on ready stands a) p o → IsFirstRound (ready_on later stands a) (x + 1) o
candidate-kept ready later stands p x a o n off same f =
    let low = n.at_least in
    first-same (ready_on ready stands a) (ready_on later stands a) (x + 1) o (λ k. sym (there k))
    (first-later (ready_on ready stands a) p (x + 1) o (omega (arith, low)) between f)
  where
    there : (k : ℕ) → ready_on later stands a k ≡ ready_on ready stands a k
    there k =
        ⊎_elim
        (λ (t : stands a k ≡ true). ap (λ b. b && stands a k) (same k t))
        (λ (g : stands a k ≡ false). and_right (later k) _ g ∙ sym (and_right (ready k) _ g))
        (cases_Bool (stands a k))

    between : (k : ℕ) → p ≤ k → k < x + 1 → ready_on ready stands a k ≡ false
    between k l h =
        ⊎_elim
        (λ (e : k ≡ x). and_right (ready k) _ (subst (λ i. stands a i ≡ false) (sym e) off))
        (λ (ne : k ≡ x → ⊥). and_left _ (stands a k) (n.none_before k l (omega (arith, h, ne))))
        (cases_eq k x)

-- at the turn to the beginning all candidates stay
pub candidate-turned : (ready : ℕ → Bool) (stands : ℕ → ℕ → Bool) (p a : ℕ) (o : Option ℕ) → IsNext ready p None → IsFirstRound (ready_on ready stands a) p o → IsFirstRound (ready_on ready stands a) 0 o
candidate-turned ready stands p a None n f = f
candidate-turned ready stands p a (Some y) n f = (f.0, λ x t. comes_by-from 0 x y (inl (omega arith, go x t (comes_by-true p x y (f.1 x t)))))
  where
    never : (x : ℕ) → ready_on ready stands a x ≡ true → p ≤ x → ⊥
    never x t l = both_ways (ready x) (n x l) (and_parts (ready x) (stands a x) t).0

    go : (x : ℕ) → ready_on ready stands a x ≡ true → By p x y → y ≤ x
    go x t (inl r) = r.1
    go x t (inr r) = ⊎_elim (λ (l : p ≤ y). absurd (never y f.0 l)) (λ (l : y ≤ x). l) r.1

-- ---- what candidates show

comes_by-self : (p x : ℕ) → comes_by p x x ≡ true
comes_by-self p x = comes_by-from p x x (⊎_elim (λ (l : x < p). inr (l, inr (omega arith))) (λ (l : p ≤ x). inl (l, omega arith)) (cases_lt x p))

pub candidates-represent : (members ready : ℕ → Bool) (stands : ℕ → ℕ → Bool) (p : ℕ) (candidate : ℕ → Option ℕ) → HasCandidates members ready stands p candidate → Represents members ready p
candidates-represent members ready stands p candidate h =
    record {
      each_is_ready = h.each_is_ready;
      none_is_passed = λ x t passed.
          h.each_stands x t
          (false_from_ne_true (members x) (λ m. both_ways (comes_by p x x) (passed x m) (comes_by-self p x)))
          (λ a. false_from_ne_true (stands a x) (λ s. of_account x a passed (and_from (ready x) (stands a x) t s) (candidate a) refl (h.each_is_first a)));
    }
  where
    of_account : (x a : ℕ) → IsPassed members p x → ready_on ready stands a x ≡ true → (o : Option ℕ) → candidate a ≡ o → IsFirstRound (ready_on ready stands a) p o → ⊥
    of_account x a passed t None e f = both_ways (ready_on ready stands a x) (f x) t
    of_account x a passed t (Some y) e f = both_ways (comes_by p x y) (passed y (h.each_is_member a y e)) (f.1 x t)

-- ---- all candidates at once

-- after the line of x, the next item that was ready
pub candidates-first : (ready later : ℕ → Bool) (stands : ℕ → ℕ → Bool) (candidate newer : ℕ → Option ℕ) (touched : ℕ → Bool) (p x : ℕ) → IsNext ready p (Some x) → ((a : ℕ) → IsFirstRound (ready_on ready stands a) p (candidate a)) → FindsAnew ready later stands candidate newer touched x → (a : ℕ) → IsFirstRound (ready_on later stands a) (x + 1) (newer a)
candidates-first ready later stands candidate newer touched p x n first f a =
    ⊎_elim
    (λ (t : touched a ≡ true). f.found a t)
    (λ (t : touched a ≡ false).
    let u = f.left_alone a t in
    subst (λ o. IsFirstRound (ready_on later stands a) (x + 1) o) (sym u.same_candidate) (candidate-kept ready later stands p x a (candidate a) n u.not_its_own u.same_ready (first a)))
    (cases_Bool (touched a))

-- at the turn to the beginning nothing has to be found
pub candidates-turned : (members ready : ℕ → Bool) (stands : ℕ → ℕ → Bool) (p : ℕ) (candidate : ℕ → Option ℕ) → IsNext members p None → HasCandidates members ready stands p candidate → HasCandidates members ready stands 0 candidate
candidates-turned members ready stands p candidate n h =
    let r = candidates-represent members ready stands p candidate h in
    record {
      each_is_ready = h.each_is_ready;
      each_is_member = h.each_is_member;
      each_is_first = λ a. candidate-turned ready stands p a (candidate a) (next-seen members ready p None r n) (h.each_is_first a);
      each_stands = h.each_stands;
    }
