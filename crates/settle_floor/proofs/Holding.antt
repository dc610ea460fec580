-- What a till holds before and after the moves of a line.
use Rattle.std.proofs.Common.{◌≡◌, ℕ, suc, ◌+◌, ◌-◌, ◌≤◌, ◌^◌, Bool, true, false, ◌&&◌, not, List, [], ◌∷◌, take, Option, Some, None, is_some, ◌⊎◌, inl, inr, refl, sym, ap, subst, ◌∙◌, arith}
use Rattle.std.specs.Prelude.{nat_eq, nat_lt, ◌==◌, ◌≢◌, if◌then◌else◌}
use Rattle.std.specs.List.{list_all}
use Rattle.std.specs.Option.{IsSomeAnd, option_map}
use Rattle.std.proofs.lemmas.Bool.{and_parts, false≢true}
use Rattle.std.proofs.lemmas.Bool.Decides.{eqb_tells}
use Rattle.commit_journal.specs.declared.line.Move.{Move}
use Rattle.machine.specs.Telling.Balances.{credits, debits}
use Rattle.machine.specs.OtherLaws.{is_real}
use Rattle.settle_floor.specs.Carrying.{CanMove, CanMoveAll, after, moved_by}

-- each account that is held has what came to it, less what left it
abbrev pub Holds : (ℕ → Option ℕ) → (ℕ → ℕ) → (ℕ → ℕ) → Type 0
Holds holdings came left = (a held : ℕ) → holdings a ≡ Some held → held + left a ≡ came a

-- move by move no account is below zero, or above 10^18
abbrev pub Safe : (ℕ → ℕ) → (ℕ → ℕ) → List Move → Type 0
Safe came left ms = (a i : ℕ) → (left a + debits a (take i ms) ≤ came a + credits a (take i ms)) × (came a + credits a (take i ms) ≤ 10 ^ 18 + (left a + debits a (take i ms)))

abbrev pub is_held : (ℕ → Option ℕ) → Move → Bool
is_held holdings m = is_some (holdings m.debit) && is_some (holdings m.credit)

abbrev pub came_by : (ℕ → ℕ) → Move → ℕ → ℕ
came_by came m a = came a + (if nat_eq m.credit a then m.amount else 0)

abbrev pub left_by : (ℕ → ℕ) → Move → ℕ → ℕ
left_by left m a = left a + (if nat_eq m.debit a then m.amount else 0)

-- ---- one move

some_of : (o : Option ℕ) → is_some o ≡ true → (held : ℕ) × (o ≡ Some held)
some_of (Some x) h = (x, refl)
some_of None h = absurd (false≢true h)

some_and : (P : ℕ → Type 0) (o : Option ℕ) (held : ℕ) → o ≡ Some held → P held → IsSomeAnd o P
some_and P o held e p = subst (λ x. IsSomeAnd x P) (sym e) p

apart_of : (m : Move) → is_real m ≡ true → m.debit ≢ m.credit
apart_of m real same = elim (eqb_tells m.debit m.credit) [
  | inl t ↦ false≢true (sym (ap (λ b. not b && nat_lt 0 m.amount) t.0) ∙ real)
  | inr f ↦ f.1 same
]

-- the amount that an account is credited with is there only where it is the credit account
yes : (x a amount : ℕ) → x ≡ a → (if nat_eq x a then amount else 0) ≡ amount
yes x a amount e = elim (eqb_tells x a) [
  | inl t ↦ ap (λ b. if b then amount else 0) t.0
  | inr f ↦ absurd (f.1 e)
]

no : (x a amount : ℕ) → x ≢ a → (if nat_eq x a then amount else 0) ≡ 0
no x a amount e = elim (eqb_tells x a) [
  | inl t ↦ absurd (e t.1)
  | inr f ↦ ap (λ b. if b then amount else 0) f.0
]

can_move : (holdings : ℕ → Option ℕ) (came left : ℕ → ℕ) (m : Move) → Holds holdings came left → is_held holdings m ≡ true → is_real m ≡ true →
    ((a : ℕ) → (left_by left m a ≤ came_by came m a) × (came_by came m a ≤ 10 ^ 18 + left_by left m a)) → CanMove holdings m
can_move holdings came left m holds had real safe =
    let apart = apart_of m real in
    let both = and_parts _ _ had in
    let from = some_of (holdings m.debit) both.0 in
    let to = some_of (holdings m.credit) both.1 in
    let d = holds m.debit from.0 from.1 in
    let c = holds m.credit to.0 to.1 in
    let s = (safe m.debit).0 in
    let t = (safe m.credit).1 in
    let d1 = yes m.debit m.debit m.amount refl in
    let d2 = no m.credit m.debit m.amount (λ e. apart (sym e)) in
    let c1 = yes m.credit m.credit m.amount refl in
    let c2 = no m.debit m.credit m.amount apart in
    record {
      apart = apart;
      covered = some_and _ (holdings m.debit) from.0 from.1 (omega (arith, d, s, d1, d2));
      fits = some_and _ (holdings m.credit) to.0 to.1 (omega (arith, c, t, c1, c2));
    }

-- what is held after a move
held_by : (holdings : ℕ → Option ℕ) (came left : ℕ → ℕ) (m : Move) → Holds holdings came left → CanMove holdings m → Holds (moved_by holdings m) (came_by came m) (left_by left m)
held_by holdings came left m holds can a held e = by_debit (eqb_tells a m.debit) (eqb_tells a m.credit)
  where
    less : (o : Option ℕ) → IsSomeAnd o (λ x. m.amount ≤ x) → option_map (λ x. x - m.amount) o ≡ Some held → (x : ℕ) × (o ≡ Some x) × (m.amount ≤ x) × (held ≡ x - m.amount)
    less (Some x) h e = (x, refl, h, sym (some_same e))
      where
        some_same : Some (x - m.amount) ≡ Some held → x - m.amount ≡ held
        some_same e = cc
    less None h e = absurd h

    more : (o : Option ℕ) → option_map (λ x. x + m.amount) o ≡ Some held → (x : ℕ) × (o ≡ Some x) × (held ≡ x + m.amount)
    more (Some x) e = (x, refl, some_same e)
      where
        some_same : Some (x + m.amount) ≡ Some held → held ≡ x + m.amount
        some_same e = cc
    more None e = cc

    by_debit : ((nat_eq a m.debit ≡ true) × (a ≡ m.debit)) ⊎ ((nat_eq a m.debit ≡ false) × (a ≢ m.debit)) → ((nat_eq a m.credit ≡ true) × (a ≡ m.credit)) ⊎ ((nat_eq a m.credit ≡ false) × (a ≢ m.credit)) → held + left_by left m a ≡ came_by came m a
    by_debit (inl t) other =
        let x = less (holdings a) (subst (λ y. IsSomeAnd (holdings y) (λ z. m.amount ≤ z)) (sym t.1) can.covered) (sym (ap (λ b. if b then option_map (λ x. x - m.amount) (holdings a) else (if a == m.credit then option_map (λ x. x + m.amount) (holdings a) else holdings a)) t.0) ∙ e) in
        let h = holds a x.0 x.1 in
        let small = x.2 in
        let is = x.3 in
        let d1 = yes m.debit a m.amount (sym t.1) in
        let c1 = no m.credit a m.amount (λ f. can.apart (sym t.1 ∙ sym f)) in
        omega (arith, h, small, is, d1, c1)
    by_debit (inr f) (inl t) =
        let x = more (holdings a) (sym (ap (λ b. if b then option_map (λ x. x - m.amount) (holdings a) else (if a == m.credit then option_map (λ x. x + m.amount) (holdings a) else holdings a)) f.0 ∙ ap (λ b. if b then option_map (λ x. x + m.amount) (holdings a) else holdings a) t.0) ∙ e) in
        let h = holds a x.0 x.1 in
        let is = x.2 in
        let d1 = no m.debit a m.amount (λ g. f.1 (sym g)) in
        let c1 = yes m.credit a m.amount (sym t.1) in
        omega (arith, h, is, d1, c1)
    by_debit (inr f) (inr g) =
        let h = holds a held (sym (ap (λ b. if b then option_map (λ x. x - m.amount) (holdings a) else (if a == m.credit then option_map (λ x. x + m.amount) (holdings a) else holdings a)) f.0 ∙ ap (λ b. if b then option_map (λ x. x + m.amount) (holdings a) else holdings a) g.0) ∙ e) in
        let d1 = no m.debit a m.amount (λ k. f.1 (sym k)) in
        let c1 = no m.credit a m.amount (λ k. g.1 (sym k)) in
        omega (arith, h, d1, c1)

-- a move leaves the same accounts held
pub same_by : (holdings : ℕ → Option ℕ) (m : Move) (a : ℕ) → is_some (moved_by holdings m a) ≡ is_some (holdings a)
same_by holdings m a = here (a == m.debit) (a == m.credit) (holdings a)
  where
    here : (b c : Bool) (o : Option ℕ) → is_some (if b then option_map (λ x. x - m.amount) o else (if c then option_map (λ x. x + m.amount) o else o)) ≡ is_some o
    here true c (Some x) = refl
    here true c None = refl
    here false true (Some x) = refl
    here false true None = refl
    here false false o = refl

-- ---- all moves of a line

pub same_after : (holdings : ℕ → Option ℕ) (ms : List Move) (a : ℕ) → is_some (after holdings ms a) ≡ is_some (holdings a)
same_after holdings [] a = refl
same_after holdings (m ∷ ms) a = same_after (moved_by holdings m) ms a ∙ same_by holdings m a

held_still : (holdings : ℕ → Option ℕ) (m : Move) (ms : List Move) → list_all (is_held holdings) ms ≡ true → list_all (is_held (moved_by holdings m)) ms ≡ true
held_still holdings m ms h = ap (λ test. list_all test ms) same ∙ h
  where
    same : is_held (moved_by holdings m) ≡ is_held holdings
    same = λ j n. same_by holdings m n.debit j && same_by holdings m n.credit j

-- ms is safe after m
safe_rest : (came left : ℕ → ℕ) (m : Move) (ms : List Move) → Safe came left (m ∷ ms) → Safe (came_by came m) (left_by left m) ms
safe_rest came left m ms safe a i =
    let s = safe a (suc i) in
    (omega (arith, s.0), omega (arith, s.1))

safe_first : (came left : ℕ → ℕ) (m : Move) (ms : List Move) → Safe came left (m ∷ ms) → (a : ℕ) → (left_by left m a ≤ came_by came m a) × (came_by came m a ≤ 10 ^ 18 + left_by left m a)
safe_first came left m ms safe a =
    let s = safe a 1 in
    (omega (arith, s.0), omega (arith, s.1))

pub can_all : (holdings : ℕ → Option ℕ) (came left : ℕ → ℕ) (ms : List Move) → Holds holdings came left → Safe came left ms → list_all (is_held holdings) ms ≡ true → list_all is_real ms ≡ true → CanMoveAll holdings ms
can_all holdings came left [] holds safe had real = tt
can_all holdings came left (m ∷ ms) holds safe had real =
    let h = and_parts (is_held holdings m) _ had in
    let r = and_parts (is_real m) _ real in
    let can = can_move holdings came left m holds h.0 r.0 (safe_first came left m ms safe) in
    (can, can_all (moved_by holdings m) (came_by came m) (left_by left m) ms (held_by holdings came left m holds can) (safe_rest came left m ms safe) (held_still holdings m ms h.1) r.1)

pub held_after : (holdings : ℕ → Option ℕ) (came left : ℕ → ℕ) (ms : List Move) → Holds holdings came left → CanMoveAll holdings ms → Holds (after holdings ms) (λ a. came a + credits a ms) (λ a. left a + debits a ms)
held_after holdings came left [] holds can a held e = let h = holds a held e in omega (arith, h)
held_after holdings came left (m ∷ ms) holds can a held e =
    let h = held_after (moved_by holdings m) (came_by came m) (left_by left m) ms (held_by holdings came left m holds can.0) can.1 a held e in
    omega (arith, h)
