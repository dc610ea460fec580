-- The laws of the foremost row.
use Rattle.std.proofs.Common.{◌≡◌, ◌⊎◌, ℕ, ◌<◌, Bool, true, false, ◌&&◌, ◌||◌, nat_eq, nat_lt, cond, List, [], ◌∷◌, Option, Some, None, length, refl, sym, ap, ◌∙◌, subst, inl, inr, arith}
use Rattle.std.specs.List.{All, Contains, filter}
use Rattle.std.specs.Option.{MatchOption, option_and_then, option_map}
use Rattle.std.proofs.lemmas.Bool.{and_from, and_parts, and_right, eq-eqb, eqb-true, false_from_ne_true, le-ltb, lt-ltb, ltb-true, or_cases, or_from, or_left, or_right, true≢false}
use Rattle.std.proofs.lemmas.List.Elements.{All-cons, All-contains, All-nil, All-weaker}
use Rattle.payment_queue.proofs.Members.{all_filtered, contains_filtered, here, none_filtered, there}
use Rattle.payment_queue.specs.declared.row.Row.{Row}
use Rattle.payment_queue.specs.Standing.{is_row_ahead, is_before, rank}
use Rattle.payment_queue.specs.Queued.{ahead_of, first_before, foremost, rows}
use Rattle.payment_queue.specs.QueueLaws.{BlockersStandFirst, FirstIsForemost, ForemostIsFirst, IsFirstBefore, IsForemost, SlotBlockersStandFirst}

-- ---- numbers one after another

abbrev first_by : ℕ → ℕ → Bool → Bool
first_by a b x = nat_lt a b || nat_eq a b && x

by_trans : (a b c : ℕ) (x y z : Bool) → (x ≡ true → y ≡ true → z ≡ true) → first_by a b x ≡ true → first_by b c y ≡ true → first_by a c z ≡ true
by_trans a b c x y z f h k = elim (or_cases _ _ h) [
  | inl l ↦ (let less : a < b = ltb-true a b l in elim (or_cases _ _ k) [
    | inl m ↦ (let more : b < c = ltb-true b c m in or_left (nat_lt a c) (nat_eq a c && z) (lt-ltb a c (omega arith)))
    | inr m ↦ (let same : b ≡ c = eqb-true b c (and_parts _ _ m).0 in or_left (nat_lt a c) (nat_eq a c && z) (lt-ltb a c (omega arith)))
  ])
  | inr l ↦ (let same : a ≡ b = eqb-true a b (and_parts _ _ l).0 in elim (or_cases _ _ k) [
    | inl m ↦ (let more : b < c = ltb-true b c m in or_left (nat_lt a c) (nat_eq a c && z) (lt-ltb a c (omega arith)))
    | inr m ↦ (let same' : b ≡ c = eqb-true b c (and_parts _ _ m).0 in
        or_right (nat_lt a c) (nat_eq a c && z) (and_from (nat_eq a c) z (eq-eqb a c (omega arith)) (f (and_parts _ _ l).1 (and_parts _ _ m).1)))
  ])
]

by_not : (a : ℕ) (x : Bool) → x ≡ false → first_by a a x ≡ false
by_not a x e = or_from (nat_lt a a) (nat_eq a a && x) (le-ltb a a (omega arith)) (and_right (nat_eq a a) x e)

less_trans : (a b c : ℕ) → nat_lt a b ≡ true → nat_lt b c ≡ true → nat_lt a c ≡ true
less_trans a b c h k = let l : a < b = ltb-true a b h in let m : b < c = ltb-true b c k in lt-ltb a c (omega arith)

ahead_trans : (r s t : Row) → is_row_ahead r s ≡ true → is_row_ahead s t ≡ true → is_row_ahead r t ≡ true
ahead_trans r s t = by_trans (rank r.priority) (rank s.priority) (rank t.priority) _ _ _
    (by_trans r.place.active s.place.active t.place.active _ _ _
    (by_trans r.place.intake s.place.intake t.place.intake _ _ _ (less_trans r.place.entry s.place.entry t.place.entry)))

ahead_not : (r : Row) → is_row_ahead r r ≡ false
ahead_not r = by_not (rank r.priority) _ (by_not r.place.active _ (by_not r.place.intake _ (le-ltb r.place.entry r.place.entry (omega arith))))

-- ---- the foremost

foremost_more : (r : Row) (rows : List Row) (o : Option Row) → MatchOption o (rows ≡ []) (IsForemost rows) → IsForemost (r ∷ rows) (ahead_of o r)
foremost_more r rows None e = record {
  among = here r rows;
  first = All-cons (λ s. is_row_ahead s r ≡ false) r rows (ahead_not r) (subst (All (λ s. is_row_ahead s r ≡ false)) (sym e) (All-nil (λ s. is_row_ahead s r ≡ false)));
}
foremost_more r rows (Some best) f = elim (is_row_ahead r best) as (λ b. is_row_ahead r best ≡ b → IsForemost (r ∷ rows) (cond b r best)) [
  | true ↦ (λ h. record {
    among = here r rows;
    first = All-cons (λ s. is_row_ahead s r ≡ false) r rows (ahead_not r)
        (All-weaker (λ s. is_row_ahead s best ≡ false) (λ s. is_row_ahead s r ≡ false) (λ s e. false_from_ne_true (is_row_ahead s r) (λ t. true≢false (sym (ahead_trans s r best t h) ∙ e))) rows f.first);
  })
  | false ↦ (λ h. record { among = there r best rows f.among; first = All-cons (λ s. is_row_ahead s best ≡ false) r rows h f.first })
] refl

pub foremost_is_first : ForemostIsFirst
unfolding foremost
foremost_is_first [] = refl
foremost_is_first (r ∷ rows) = foremost_more r rows (foremost rows) (foremost_is_first rows)

only_foremost : (rows : List Row) (r : Row) (o : Option Row) → MatchOption o (rows ≡ []) (IsForemost rows) → Contains rows r → All (λ s. (s ≡ r) ⊎ (is_row_ahead r s ≡ true)) rows → o ≡ Some r
only_foremost rows r None e c a = (let h : c.0 < length rows = c.1 in let z : length rows ≡ 0 = ap length e in absurd (omega arith))
only_foremost rows r (Some q) f c a = elim (All-contains (λ s. (s ≡ r) ⊎ (is_row_ahead r s ≡ true)) rows q a f.among) [
  | inl e ↦ ap Some e
  | inr ahead ↦ absurd (true≢false (sym ahead ∙ All-contains (λ s. is_row_ahead s q ≡ false) rows r f.first c))
]

pub first_is_foremost : FirstIsForemost
first_is_foremost rows r c a = only_foremost rows r (foremost rows) (foremost_is_first rows) c a

-- ---- blockers

passes : (a : ℕ) (x s : Row) → s.account ≡ a → is_before s x ≡ true → (nat_eq s.account a && is_before s x) ≡ true
passes a x s e b = and_from _ _ (eq-eqb _ _ e) b

first_of : (rows : List Row) (a : ℕ) (x : Row) (o : Option Row) →
    MatchOption o (filter (λ r. nat_eq r.account a && is_before r x) rows ≡ []) (IsForemost (filter (λ r. nat_eq r.account a && is_before r x) rows)) →
    MatchOption (option_map (λ (r : Row). r.item) o) (All (λ s. s.account ≡ a → is_before s x ≡ false) rows) (λ y. (r : Row) × (r.item ≡ y) × IsFirstBefore rows a x r)
first_of rows a x None e = All-weaker (λ s. (nat_eq s.account a && is_before s x) ≡ false) (λ s. s.account ≡ a → is_before s x ≡ false)
    (λ s no same. false_from_ne_true (is_before s x) (λ b. true≢false (sym (passes a x s same b) ∙ no))) rows (none_filtered (λ r. nat_eq r.account a && is_before r x) rows e)
first_of rows a x (Some r) f =
    let c = contains_filtered (λ r. nat_eq r.account a && is_before r x) rows r f.among in
    let parts = and_parts _ _ c.1 in (
      r,
      refl,
      record {
        among = c.0;
        account = eqb-true _ _ parts.0;
        before = parts.1;
        first = All-weaker (λ s. (nat_eq s.account a && is_before s x) ≡ true → is_row_ahead s r ≡ false) (λ s. s.account ≡ a → is_before s x ≡ true → is_row_ahead s r ≡ false)
            (λ s h same b. h (passes a x s same b)) rows (all_filtered (λ s. is_row_ahead s r ≡ false) (λ r. nat_eq r.account a && is_before r x) rows f.first);
      },
    )

pub blockers_stand_first : BlockersStandFirst
blockers_stand_first rows a item x e =
    subst (λ (o : Option Row). MatchOption (option_and_then (first_before rows a) o) (All (λ s. s.account ≡ a → is_before s x ≡ false) rows) (λ y. (r : Row) × (r.item ≡ y) × IsFirstBefore rows a x r)) (sym e)
    (first_of rows a x (foremost (filter (λ r. nat_eq r.account a && is_before r x) rows)) (foremost_is_first (filter (λ r. nat_eq r.account a && is_before r x) rows)))

pub slot_blockers_stand_first : SlotBlockersStandFirst
slot_blockers_stand_first q s x e =
    subst (λ (o : Option Row). MatchOption (option_and_then (λ (r : Row). first_before (rows q) r.account r) o) (All (λ r. r.account ≡ x.account → is_before r x ≡ false) (rows q))
    (λ y. (r : Row) × (r.item ≡ y) × IsFirstBefore (rows q) x.account x r)) (sym e)
    (first_of (rows q) x.account x (foremost (filter (λ r. nat_eq r.account x.account && is_before r x) (rows q))) (foremost_is_first (filter (λ r. nat_eq r.account x.account && is_before r x) (rows q))))
