-- Of some items one stands before all others, and nothing blocks it.
use Rattle.std.proofs.Common.{◌≡◌, ℕ, zero, suc, ◌+◌, ◌<◌, ◌≤◌, Bool, true, false, not, ◌&&◌, ◌||◌, List, [], ◌∷◌, Option, Some, None, refl, sym, ◌∙◌, subst, arith, ◌⊎◌, inl, inr}
use Rattle.std.specs.Prelude.{nat_eq, nat_lt, filter, map, flat_map, length, slice_get, is_some}
use Rattle.std.specs.List.{list_any}
use Rattle.std.proofs.lemmas.Bool.{eqb-true, eq-eqb, ltb-true, ltb-false, lt-ltb, false_from_ne_true, and_parts}
use Rattle.std.proofs.lemmas.Option.{slice_get_within}
use Rattle.batch_records.specs.DayRecord.{Day}
use Rattle.batch_records.specs.declared.day.Entry.{Entry}
use Rattle.commit_journal.specs.Line.{History}
use Rattle.machine.specs.declared.answers.Item.{Item}
use Rattle.machine.specs.Words.{some_passes}
use Rattle.machine.specs.Records.Messages.{sort_of, entries, entry_at, message_numbers, item_numbers}
use Rattle.machine.specs.Stages.Pending.{Standing, standing, item, is_pending, is_ahead, priority_as, is_normal, stands_before, stands_on, is_blocker, is_blocked_by, is_blocked}
use Rattle.settlement_laws.proofs.Base.Sums.{any-at}
use Rattle.settlement_laws.proofs.Base.Lists.{IsIn, never, into_filter, into_flat, into_map, in_range}

-- ---- the order

-- by two numbers, and where they are the same by another test
abbrev then_by : ℕ → ℕ → Bool → Bool
then_by a b r = nat_lt a b || nat_eq a b && r

then_parts : (a b : ℕ) (r : Bool) → then_by a b r ≡ true → (a < b) ⊎ ((a ≡ b) × (r ≡ true))
then_parts a b r h = here (nat_lt a b) refl h
  where
    here : (c : Bool) → nat_lt a b ≡ c → (c || nat_eq a b && r) ≡ true → (a < b) ⊎ ((a ≡ b) × (r ≡ true))
    here true e h = inl (ltb-true a b e)
    here false e h = let p = and_parts (nat_eq a b) r h in inr (eqb-true a b p.0, p.1)

then_less : (a b : ℕ) (r : Bool) → a < b → then_by a b r ≡ true
then_less a b r h = rw (lt-ltb a b h) refl

then_same : (a b : ℕ) (r : Bool) → a ≡ b → r ≡ true → then_by a b r ≡ true
then_same a b r h k = here (nat_lt a b) (nat_eq a b) r (eq-eqb a b h) k
  where
    here : (c d r : Bool) → d ≡ true → r ≡ true → (c || d && r) ≡ true
    here true d r h k = refl
    here false true r h k = k
    here false false r h k = cc

then_chain : (a b c : ℕ) (r s t : Bool) → (r ≡ true → s ≡ true → t ≡ true) → then_by a b r ≡ true → then_by b c s ≡ true → then_by a c t ≡ true
then_chain a b c r s t f h k = here (then_parts a b r h) (then_parts b c s k)
  where
    here : (a < b) ⊎ ((a ≡ b) × (r ≡ true)) → (b < c) ⊎ ((b ≡ c) × (s ≡ true)) → then_by a c t ≡ true
    here (inl x) (inl y) = then_less a c t (omega arith)
    here (inl x) (inr y) = then_less a c t (omega (arith, y.0))
    here (inr x) (inl y) = then_less a c t (omega (arith, x.0))
    here (inr x) (inr y) = then_same a c t (x.0 ∙ y.0) (f x.1 y.1)

less_chain : (a b c : ℕ) → nat_lt a b ≡ true → nat_lt b c ≡ true → nat_lt a c ≡ true
less_chain a b c h k = lt-ltb a c (let x : a < b = ltb-true a b h in let y : b < c = ltb-true b c k in omega arith)

pub ahead_chain : (s t u : Standing) → is_ahead s t ≡ true → is_ahead t u ≡ true → is_ahead s u ≡ true
ahead_chain s t u h k =
    then_chain s.priority t.priority u.priority _ _ _ (
    then_chain s.active t.active u.active _ _ _ (
    then_chain s.intake t.intake u.intake _ _ _ (less_chain s.entry t.entry u.entry))) h k

pub not_ahead : (s : Standing) → is_ahead s s ≡ true → ⊥
not_ahead s h = here (then_parts s.priority s.priority _ h)
  where
    last : (s.intake < s.intake) ⊎ ((s.intake ≡ s.intake) × (nat_lt s.entry s.entry ≡ true)) → ⊥
    last (inl x) = omega arith
    last (inr x) = let y : s.entry < s.entry = ltb-true s.entry s.entry x.1 in omega arith

    more : (s.active < s.active) ⊎ ((s.active ≡ s.active) × (then_by s.intake s.intake (nat_lt s.entry s.entry) ≡ true)) → ⊥
    more (inl x) = omega arith
    more (inr x) = last (then_parts s.intake s.intake _ x.1)

    here : (s.priority < s.priority) ⊎ ((s.priority ≡ s.priority) × (then_by s.active s.active (then_by s.intake s.intake (nat_lt s.entry s.entry)) ≡ true)) → ⊥
    here (inl x) = omega arith
    here (inr x) = more (then_parts s.active s.active _ x.1)

-- where s is not ahead of t by them, t is ahead of s, or they have the same numbers
then_other : {A : Type 0} (a b : ℕ) (r s : Bool) → ((r ≡ true → ⊥) → (s ≡ true) ⊎ A) → (then_by a b r ≡ true → ⊥) → (then_by b a s ≡ true) ⊎ ((a ≡ b) × A)
then_other {A = A} a b r s f h = here (nat_lt a b) (nat_lt b a) refl refl
  where
    there : a ≡ b → (s ≡ true) ⊎ A → (then_by b a s ≡ true) ⊎ ((a ≡ b) × A)
    there e (inl q) = inl (then_same b a s (sym e) q)
    there e (inr x) = inr (e, x)

    here : (c d : Bool) → nat_lt a b ≡ c → nat_lt b a ≡ d → (then_by b a s ≡ true) ⊎ ((a ≡ b) × A)
    here true d e q = absurd (h (then_less a b r (ltb-true a b e)))
    here false true e q = inl (then_less b a s (ltb-true b a q))
    here false false e q =
        let low = ltb-false a b e in
        let high = ltb-false b a q in
        let same : a ≡ b = omega (arith, low, high) in
        there same (f (λ k. h (then_same a b r same k)))

less_other : (a b : ℕ) → (nat_lt a b ≡ true → ⊥) → (nat_lt b a ≡ true) ⊎ (a ≡ b)
less_other a b h = here (nat_lt a b) (nat_lt b a) refl refl
  where
    here : (c d : Bool) → nat_lt a b ≡ c → nat_lt b a ≡ d → (nat_lt b a ≡ true) ⊎ (a ≡ b)
    here true d e q = absurd (h e)
    here false true e q = inl q
    here false false e q =
        let low = ltb-false a b e in
        let high = ltb-false b a q in
        inr (omega (arith, low, high))

pub ahead_other : (s t : Standing) → (is_ahead s t ≡ true → ⊥) → (is_ahead t s ≡ true) ⊎ ((s.priority ≡ t.priority) × ((s.active ≡ t.active) × ((s.intake ≡ t.intake) × (s.entry ≡ t.entry))))
ahead_other s t =
    then_other s.priority t.priority _ _ (
    then_other s.active t.active _ _ (
    then_other s.intake t.intake _ _ (less_other s.entry t.entry)))

-- ---- the foremost of a list

-- x stands in the list, and none of the list is ahead of it
abbrev IsFirst : Day → History → List Item → Item → Type 0
IsFirst day J xs x = IsIn x xs × ((y : Item) → IsIn y xs → is_ahead (standing day J y) (standing day J x) ≡ true → ⊥)

first_of : (day : Day) (J : History) (x : Item) (xs : List Item) → (z : Item) × IsFirst day J (x ∷ xs) z
first_of day J x [] = (x, (inl refl, alone))
  where
    alone : (y : Item) → IsIn y (x ∷ []) → is_ahead (standing day J y) (standing day J x) ≡ true → ⊥
    alone y (inl e) h = not_ahead (standing day J x) (subst (λ w. is_ahead (standing day J w) (standing day J x) ≡ true) (sym e) h)
    alone y (inr i) h = i
first_of day J x (w ∷ ws) = here (first_of day J w ws)
  where
    pick : (z : Item) → IsIn z (w ∷ ws) → ((y : Item) → IsIn y (w ∷ ws) → is_ahead (standing day J y) (standing day J z) ≡ true → ⊥) → (b : Bool) → is_ahead (standing day J x) (standing day J z) ≡ b → (z : Item) × IsFirst day J (x ∷ w ∷ ws) z
    pick z i least true e = (x, (inl refl, above))
      where
        above : (y : Item) → IsIn y (x ∷ w ∷ ws) → is_ahead (standing day J y) (standing day J x) ≡ true → ⊥
        above y (inl q) h = not_ahead (standing day J x) (subst (λ v. is_ahead (standing day J v) (standing day J x) ≡ true) (sym q) h)
        above y (inr j) h = least y j (ahead_chain (standing day J y) (standing day J x) (standing day J z) h e)
    pick z i least false e = (z, (inr i, above))
      where
        above : (y : Item) → IsIn y (x ∷ w ∷ ws) → is_ahead (standing day J y) (standing day J z) ≡ true → ⊥
        above y (inl q) h = never (is_ahead (standing day J x) (standing day J z)) (subst (λ v. is_ahead (standing day J v) (standing day J z) ≡ true) (sym q) h) e
        above y (inr j) h = least y j h

    here : (z : Item) × IsFirst day J (w ∷ ws) z → (z : Item) × IsFirst day J (x ∷ w ∷ ws) z
    here r = pick r.0 r.1.0 r.1.1 (is_ahead (standing day J x) (standing day J r.0)) refl

pub first_in : (day : Day) (J : History) (xs : List Item) (x : Item) → IsIn x xs → (z : Item) × IsFirst day J xs z
first_in day J [] x i = absurd i
first_in day J (y ∷ ys) x i = first_of day J y ys

-- ---- nothing blocks it

-- all items of the day
abbrev pub items_of : Day → ℕ → List Item
items_of day n = map (item n) (item_numbers day n)

abbrev pub items : Day → List Item
items day = flat_map (items_of day) (message_numbers day)

abbrev pub pending : Day → History → List Item
pending day J = filter (is_pending day J) (items day)

pub item_in : (day : Day) (n k : ℕ) → 1 ≤ n → n < 1 + length day.messages → k < suc (length (entries day n)) → IsIn (item n k) (items day)
item_in day n k low high within =
    into_flat (items_of day) (message_numbers day) n (item n k) (in_range 1 (length day.messages) n low high)
    (into_map (item n) (item_numbers day n) k (in_range 0 (suc (length (entries day n))) k (omega arith) (omega (arith, within))))

-- an entry of a message has a number of its items
pub entry_there : (day : Day) (n k : ℕ) → is_some (entry_at day n k) ≡ true → k < suc (length (entries day n))
entry_there day n zero h = omega arith
entry_there day n (suc i) h = here (slice_get (entries day n) i) refl h
  where
    here : (o : Option Entry) → slice_get (entries day n) i ≡ o → is_some o ≡ true → suc i < suc (length (entries day n))
    here None e h = never false h refl
    here (Some x) e h = let k : i < length (entries day n) = slice_get_within (entries day n) i x e in omega arith

pub entry_within : (day : Day) (n k : ℕ) (test : Entry → Bool) → some_passes test (entry_at day n k) ≡ true → k < suc (length (entries day n))
entry_within day n k test h = entry_there day n k (here (entry_at day n k) h)
  where
    here : (o : Option Entry) → some_passes test o ≡ true → is_some o ≡ true
    here None h = never false h refl
    here (Some x) h = refl

pub nothing_blocks : (day : Day) (J : History) (x : Item) (a : ℕ) → IsFirst day J (filter (stands_on day a) (pending day J)) x → is_blocked day J x a ≡ false
unfolding is_blocked is_blocked_by
nothing_blocks day J x a h = false_from_ne_true (list_any (is_blocked_by day J x a) (message_numbers day)) (λ b. at_message (any-at (is_blocked_by day J x a) 1 (length day.messages) b))
  where
    at_item : (n : ℕ) → 1 ≤ n → n < 1 + length day.messages → (k : ℕ) × (0 ≤ k) × (k < 0 + suc (length (entries day n))) × (is_blocker day J x a (item n k) ≡ true) → ⊥
    at_item n low high (k, _, within, b) =
        let c = and_parts (is_pending day J (item n k) && stands_on day a (item n k)) (stands_before day J x (item n k)) b in
        let p = and_parts (is_pending day J (item n k)) (stands_on day a (item n k)) c.0 in
        let i : IsIn (item n k) (items day) = item_in day n k low high (omega (arith, within)) in
        h.1 (item n k) (into_filter (stands_on day a) (pending day J) (item n k) (into_filter (is_pending day J) (items day) (item n k) i p.0) p.1)
        (and_parts (not (is_normal (priority_as (sort_of day n) day n))) (is_ahead (standing day J (item n k)) (standing day J x)) c.1).1

    at_message : (n : ℕ) × (1 ≤ n) × (n < 1 + length day.messages) × (is_blocked_by day J x a n ≡ true) → ⊥
    at_message (n, low, high, b) = at_item n low high (any-at (λ k. is_blocker day J x a (item n k)) 0 (suc (length (entries day n))) b)
