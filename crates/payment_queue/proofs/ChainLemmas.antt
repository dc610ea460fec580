-- Chains of slots: walks along them, one slot more, one slot less.
use Rattle.std.proofs.Common.{◌≡◌, ◌≢◌, ◌⊎◌, ℕ, ◌+◌, ◌<◌, ◌≤◌, Bool, true, false, Option, Some, None, refl, sym, ap, ◌∙◌, subst, inl, inr, arith}
use Rattle.std.proofs.lemmas.Bool.{cases_eq, cases_lt, cases_order, true≢false}
use Rattle.payment_queue.specs.Chains.{AreApart, behind, IsOn, IsFrom, Reaches, IsToward, IsFirst, IsChained, IsElsewhere, IsHooked}

-- positions the other way round
pub record IsReversed (pos reversed : ℕ → ℕ) : Type 0 where
  pub up : (u v : ℕ) → pos u < pos v → reversed v < reversed u
  pub down : (u v : ℕ) → reversed u < reversed v → pos v < pos u

pub turn : (pos reversed : ℕ → ℕ) → IsReversed pos reversed → IsReversed reversed pos
turn pos reversed t = record { up = λ u v h. t.down u v h; down = λ u v h. t.up u v h }

pub apart_reversed : (live : ℕ → Bool) (band pos reversed : ℕ → ℕ) → IsReversed pos reversed → AreApart live band pos → AreApart live band reversed
apart_reversed live band pos reversed t a = record {
  apart = λ u v lu lv ln e. a.apart u v lu lv ln (elim (cases_order (pos u) (pos v)) [
    | inl same ↦ same
    | inr (inl less) ↦ (let h : reversed v < reversed u = t.up u v less in absurd (omega arith))
    | inr (inr more) ↦ (let h : reversed u < reversed v = t.up v u more in absurd (omega arith))
  ]);
}

-- of the slots of the band before position k, the last
abbrev pub IsBelow : (ℕ → ℕ) → ℕ → Option ℕ → Type 0
IsBelow pos k None = Unit {0}
IsBelow pos k (Some q) = pos q < k

abbrev pub IsCaught : (ℕ → ℕ) → Option ℕ → ℕ → Type 0
IsCaught pos None u = ⊥
IsCaught pos (Some q) u = pos u ≤ pos q

pub record IsLast (live : ℕ → Bool) (band pos : ℕ → ℕ) (c k : ℕ) (at : Option ℕ) : Type 0 where
  pub on : IsOn live band c at
  pub below : IsBelow pos k at
  pub last : (u : ℕ) → live u ≡ true → band u ≡ c → pos u < k → IsCaught pos at u

below_reversed : (pos reversed : ℕ → ℕ) → IsReversed pos reversed → (s : ℕ) (p : Option ℕ) → IsFrom reversed (reversed s + 1) p → IsBelow pos (pos s) p
below_reversed pos reversed t s None h = tt
below_reversed pos reversed t s (Some q) h = t.down s q (omega arith)

caught_reversed : (pos reversed : ℕ → ℕ) → IsReversed pos reversed → (u : ℕ) (p : Option ℕ) → Reaches reversed p u → IsCaught pos p u
caught_reversed pos reversed t u None h = h
caught_reversed pos reversed t u (Some q) h = elim (cases_lt (pos q) (pos u)) [
  | inl less ↦ (let e : reversed u < reversed q = t.up q u less in absurd (omega arith))
  | inr le ↦ le
]

-- the first the other way round is the last this way
pub last_reversed : (live : ℕ → Bool) (band pos reversed : ℕ → ℕ) → IsReversed pos reversed → (c s : ℕ) (p : Option ℕ) →
    IsFirst live band reversed c (reversed s + 1) p → IsLast live band pos c (pos s) p
last_reversed live band pos reversed t c s p f = record {
  on = f.toward.on;
  below = below_reversed pos reversed t s p f.there;
  last = λ u lu ln h. caught_reversed pos reversed t u p (f.toward.reaches u lu ln (let e : reversed s < reversed u = t.up u s h in omega arith));
}

-- ---- walks

pub start : (live : ℕ → Bool) (band pos : ℕ → ℕ) (step : Option ℕ → ℕ → Option ℕ) → IsChained live band pos step → (c k : ℕ) → IsToward live band pos c k (step None c)
start live band pos step ch c k = record {
  on = (ch.each None c tt).toward.on;
  reaches = λ u lu ln h. (ch.each None c tt).toward.reaches u lu ln (omega arith);
}

pub onward : (live : ℕ → Bool) (band pos : ℕ → ℕ) (step : Option ℕ → ℕ → Option ℕ) → IsChained live band pos step → (c k s : ℕ) → IsToward live band pos c k (Some s) → pos s < k →
    IsToward live band pos c k (step (Some s) c)
onward live band pos step ch c k s w h = record {
  on = (ch.each (Some s) c w.on).toward.on;
  reaches = λ u lu ln e. (ch.each (Some s) c w.on).toward.reaches u lu ln (omega arith);
}

-- ---- which place it is

abbrev pub HasBand : (ℕ → ℕ) → ℕ → Option ℕ → Type 0
HasBand band c None = Unit {0}
HasBand band c (Some s) = band s ≡ c

band_of : (live : ℕ → Bool) (band : ℕ → ℕ) (c : ℕ) (at : Option ℕ) → IsOn live band c at → HasBand band c at
band_of live band c None h = tt
band_of live band c (Some s) h = h.1

cases_place : (band : ℕ → ℕ) (here : Option ℕ) (c : ℕ) (at : Option ℕ) (d : ℕ) → HasBand band c here → HasBand band d at →
    ((at ≡ here) × (d ≡ c)) ⊎ IsElsewhere here c at d
cases_place band None c None d h k = elim (cases_eq d c) [ inl e ↦ inl (refl, e) | inr n ↦ inr n ]
cases_place band None c (Some t) d h k = inr tt
cases_place band (Some s) c None d h k = inr tt
cases_place band (Some s) c (Some t) d h k = elim (cases_eq t s) [ inl e ↦ inl (ap Some e, sym k ∙ ap band e ∙ h) | inr n ↦ inr n ]

reaches_later : (pos : ℕ → ℕ) (o : Option ℕ) (u v : ℕ) → Reaches pos o u → pos u ≤ pos v → Reaches pos o v
reaches_later pos None u v h le = h
reaches_later pos (Some t) u v h le = omega arith

-- ---- a slot between its neighbours

module _ (live : ℕ → Bool) (band pos : ℕ → ℕ) (step : Option ℕ → ℕ → Option ℕ) (chained : IsChained live band pos step) (apart : AreApart live band pos)
    (c s : ℕ) (mine : band s ≡ c) where
  -- the last before the slot has nothing between it and the slot
  before_slot : (p : Option ℕ) → IsLast live band pos c (pos s) p → (u : ℕ) → live u ≡ true → band u ≡ c → behind pos p ≤ pos u → pos u < pos s → ⊥
  before_slot None l u lu ln h less = l.last u lu ln less
  before_slot (Some q) l u lu ln h less = let e : pos u ≤ pos q = l.last u lu ln less in omega arith

  behind_le : (p : Option ℕ) → IsBelow pos (pos s) p → behind pos p ≤ pos s
  behind_le None b = omega arith
  behind_le (Some q) b = omega arith

  -- a place that isn't the last before the slot, and from which the slot is met: the last one is met first
  met_before : (p : Option ℕ) → IsLast live band pos c (pos s) p → (at : Option ℕ) → IsOn live band c at → IsElsewhere p c at c → behind pos at ≤ pos s →
      (o : Option ℕ) → IsFirst live band pos c (behind pos at) o → (q : ℕ) × (live q ≡ true) × (band q ≡ c) × (pos q < pos s) × Reaches pos o q
  met_before None l None on e h o f = absurd (e refl)
  met_before None l (Some r) on e h o f = absurd (l.last r on.0 on.1 (omega arith))
  met_before (Some q) l None on e h o f = (q, l.on.0, l.on.1, l.below, f.toward.reaches q l.on.0 l.on.1 (omega arith))
  met_before (Some q) l (Some r) on e h o f =
      let le : pos r ≤ pos q = l.last r on.0 on.1 (omega arith) in
      elim (cases_order (pos r) (pos q)) [
        | inl same ↦ absurd (e (apart.apart r q on.0 l.on.0 (on.1 ∙ sym l.on.1) same))
        | inr (inl less) ↦ (q, l.on.0, l.on.1, l.below, f.toward.reaches q l.on.0 l.on.1 (omega arith))
        | inr (inr more) ↦ absurd (omega arith)
      ]

  -- what the chain has after the last before the slot is the first after the slot
  pub first_behind : ((u : ℕ) → live u ≡ true → band u ≡ c → pos u ≢ pos s) → (p : Option ℕ) → IsLast live band pos c (pos s) p → IsFirst live band pos c (pos s + 1) (step p c)
  first_behind fresh p l =
      let f : IsFirst live band pos c (behind pos p) (step p c) = chained.each p c l.on in
      record {
        toward = record {
          on = f.toward.on;
          reaches = λ u lu ln h. f.toward.reaches u lu ln (let e : behind pos p ≤ pos s = behind_le p l.below in omega arith);
        };
        there = beyond (step p c) f;
      }
    where
      beyond : (o : Option ℕ) → IsFirst live band pos c (behind pos p) o → IsFrom pos (pos s + 1) o
      beyond None f = tt
      beyond (Some t) f = elim (cases_order (pos t) (pos s)) [
        | inl same ↦ absurd (fresh t f.toward.on.0 f.toward.on.1 same)
        | inr (inl less) ↦ absurd (before_slot p l t f.toward.on.0 f.toward.on.1 f.there less)
        | inr (inr more) ↦ omega arith
      ]

  -- ---- one slot less

  module _ (live' : ℕ → Bool) (step' : Option ℕ → ℕ → Option ℕ) (is_in : live s ≡ true) (gone : live' s ≡ false)
      (others : (u : ℕ) → u ≢ s → live' u ≡ live u) (p n : Option ℕ) (last : IsLast live band pos c (pos s) p)
      (first : IsFirst live band pos c (pos s + 1) n) (hooked : IsHooked step step' p c n) where
    not_slot : (u : ℕ) → live' u ≡ true → u ≢ s
    not_slot u lu e = true≢false (sym lu ∙ ap live' e ∙ gone)

    was_in : (u : ℕ) → live' u ≡ true → live u ≡ true
    was_in u lu = sym (others u (not_slot u lu)) ∙ lu

    stays : (u : ℕ) → live u ≡ true → u ≢ s → live' u ≡ true
    stays u lu ne = others u ne ∙ lu

    was_on : (at : Option ℕ) (d : ℕ) → IsOn live' band d at → IsOn live band d at
    was_on None d on = tt
    was_on (Some u) d on = (was_in u on.0, on.1)

    still_on : (d : ℕ) (o : Option ℕ) → IsOn live band d o → (o ≡ Some s → ⊥) → IsOn live' band d o
    still_on d None on ne = tt
    still_on d (Some u) on ne = (stays u on.0 (λ e. ne (ap Some e)), on.1)

    isnt_slot : (o : Option ℕ) → IsFrom pos (pos s + 1) o → o ≡ Some s → ⊥
    isnt_slot None h e = cc
    isnt_slot (Some t) h e = let same : t ≡ s = cc in let there : pos s + 1 ≤ pos s = subst (λ (u : ℕ). pos s + 1 ≤ pos u) same h in omega arith

    from_last : (q o : Option ℕ) → IsBelow pos (pos s) q → IsFrom pos (pos s + 1) o → IsFrom pos (behind pos q) o
    from_last q None b h = tt
    from_last None (Some t) b h = omega arith
    from_last (Some r) (Some t) b h = omega arith

    at_last : IsFirst live' band pos c (behind pos p) n
    at_last = record {
      toward = record {
        on = still_on c n first.toward.on (isnt_slot n first.there);
        reaches = λ u lu ln h. elim (cases_order (pos u) (pos s)) [
          | inl same ↦ absurd (not_slot u lu (apart.apart u s (was_in u lu) is_in (ln ∙ sym mine) same))
          | inr (inl less) ↦ absurd (before_slot p last u (was_in u lu) ln h less)
          | inr (inr more) ↦ first.toward.reaches u (was_in u lu) ln (omega arith)
        ];
      };
      there = from_last p n last.below first.there;
    }

    kept_first : (d k : ℕ) (o : Option ℕ) → IsFirst live band pos d k o → (o ≡ Some s → ⊥) → IsFirst live' band pos d k o
    kept_first d k o f ne = record {
      toward = record { on = still_on d o f.toward.on ne; reaches = λ u lu ln h. f.toward.reaches u (was_in u lu) ln h };
      there = f.there;
    }

    -- from a place that isn't the last before the slot, the slot isn't met
    not_met : (at : Option ℕ) (d : ℕ) → IsOn live band d at → IsElsewhere p c at d → (o : Option ℕ) → IsFirst live band pos d (behind pos at) o → o ≡ Some s → ⊥
    not_met at d on e o f is =
        let g : IsFirst live band pos d (behind pos at) (Some s) = subst (IsFirst live band pos d (behind pos at)) is f in
        let same : d ≡ c = sym g.toward.on.1 ∙ mine in
        let on' : IsOn live band c at = subst (λ (x : ℕ). IsOn live band x at) same on in
        let e' : IsElsewhere p c at c = subst (λ (x : ℕ). IsElsewhere p c at x) same e in
        let g' : IsFirst live band pos c (behind pos at) (Some s) = subst (λ (x : ℕ). IsFirst live band pos x (behind pos at) (Some s)) same g in
        let m = met_before p last at on' e' g'.there (Some s) g' in
        omega (arith, m.3, m.4)

    pub removed : IsChained live' band pos step'
    removed = record {
      each = λ at d on. elim (cases_place band p c at d (band_of live band c p last.on) (band_of live' band d at on)) [
        | inl e ↦ subst (λ (x : Option ℕ). IsFirst live' band pos d (behind pos x) (step' x d)) (sym e.0)
            (subst (λ (x : ℕ). IsFirst live' band pos x (behind pos p) (step' p x)) (sym e.1)
            (subst (IsFirst live' band pos c (behind pos p)) (sym hooked.hooked) at_last))
        | inr e ↦ subst (IsFirst live' band pos d (behind pos at)) (sym (hooked.elsewhere at d e))
            (kept_first d (behind pos at) (step at d) (chained.each at d (was_on at d on))
            (not_met at d (was_on at d on) e (step at d) (chained.each at d (was_on at d on))))
      ];
    }

  -- ---- one slot more

  module _ (live' : ℕ → Bool) (step' step'' : Option ℕ → ℕ → Option ℕ) (is_out : live s ≡ false) (is_in : live' s ≡ true)
      (others : (u : ℕ) → u ≢ s → live' u ≡ live u) (p n : Option ℕ) (last : IsLast live band pos c (pos s) p)
      (first : IsFirst live band pos c (pos s + 1) n)
      (hooked : IsHooked step step' (Some s) c n) (hooked' : IsHooked step' step'' p c (Some s)) where
    comes_in : (u : ℕ) → live u ≡ true → live' u ≡ true
    comes_in u lu = others u (λ e. true≢false (sym lu ∙ ap live e ∙ is_out)) ∙ lu

    was_there : (u : ℕ) → u ≢ s → live' u ≡ true → live u ≡ true
    was_there u ne lu = sym (others u ne) ∙ lu

    comes_on : (d : ℕ) (o : Option ℕ) → IsOn live band d o → IsOn live' band d o
    comes_on d None on = tt
    comes_on d (Some u) on = (comes_in u on.0, on.1)

    stood_on : (at : Option ℕ) (d : ℕ) → IsElsewhere (Some s) c at d → IsOn live' band d at → IsOn live band d at
    stood_on None d e on = tt
    stood_on (Some u) d e on = (was_there u e on.0, on.1)

    below_from : (q : Option ℕ) → IsBelow pos (pos s) q → behind pos q ≤ pos s
    below_from None b = omega arith
    below_from (Some r) b = omega arith

    at_before : IsFirst live' band pos c (behind pos p) (Some s)
    at_before = record {
      toward = record {
        on = (is_in, mine);
        reaches = λ u lu ln h. elim (cases_eq u s) [
          | inl same ↦ subst (λ (x : ℕ). pos s ≤ pos x) (sym same) (omega arith)
          | inr ne ↦ elim (cases_lt (pos u) (pos s)) [
            | inl less ↦ absurd (before_slot p last u (was_there u ne lu) ln h less)
            | inr le ↦ le
          ]
        ];
      };
      there = below_from p last.below;
    }

    at_slot : IsFirst live' band pos c (pos s + 1) n
    at_slot = record {
      toward = record {
        on = comes_on c n first.toward.on;
        reaches = λ u lu ln h. elim (cases_eq u s) [
          | inl same ↦ (let far : pos s + 1 ≤ pos s = subst (λ (x : ℕ). pos s + 1 ≤ pos x) same h in absurd (omega arith))
          | inr ne ↦ first.toward.reaches u (was_there u ne lu) ln h
        ];
      };
      there = first.there;
    }

    -- from another place the slot isn't the first that is met
    at_other : (at : Option ℕ) (d : ℕ) → IsOn live band d at → IsElsewhere p c at d → (o : Option ℕ) → IsFirst live band pos d (behind pos at) o → IsFirst live' band pos d (behind pos at) o
    at_other at d on e o f = record {
      toward = record {
        on = comes_on d o f.toward.on;
        reaches = λ u lu ln h. elim (cases_eq u s) [
          | inl same ↦ (
              let same' : d ≡ c = sym ln ∙ ap band same ∙ mine in
              let on' : IsOn live band c at = subst (λ (x : ℕ). IsOn live band x at) same' on in
              let e' : IsElsewhere p c at c = subst (λ (x : ℕ). IsElsewhere p c at x) same' e in
              let f' : IsFirst live band pos c (behind pos at) o = subst (λ (x : ℕ). IsFirst live band pos x (behind pos at) o) same' f in
              let h' : behind pos at ≤ pos s = subst (λ (x : ℕ). behind pos at ≤ pos x) same h in
              let m = met_before p last at on' e' h' o f' in
              let less : pos m.0 ≤ pos u = subst (λ (x : ℕ). pos m.0 ≤ pos x) (sym same) (let h : pos m.0 < pos s = m.3 in omega arith) in
              reaches_later pos o m.0 u m.4 less)
          | inr ne ↦ f.toward.reaches u (was_there u ne lu) ln h
        ];
      };
      there = f.there;
    }

    pub inserted : IsChained live' band pos step''
    inserted = record {
      each = λ at d on. elim (cases_place band p c at d (band_of live band c p last.on) (band_of live' band d at on)) [
        | inl e ↦ subst (λ (x : Option ℕ). IsFirst live' band pos d (behind pos x) (step'' x d)) (sym e.0)
            (subst (λ (x : ℕ). IsFirst live' band pos x (behind pos p) (step'' p x)) (sym e.1)
            (subst (IsFirst live' band pos c (behind pos p)) (sym hooked'.hooked) at_before))
        | inr e ↦ subst (IsFirst live' band pos d (behind pos at)) (sym (hooked'.elsewhere at d e))
            (elim (cases_place band (Some s) c at d mine (band_of live' band d at on)) [
              | inl e' ↦ subst (λ (x : Option ℕ). IsFirst live' band pos d (behind pos x) (step' x d)) (sym e'.0)
                  (subst (λ (x : ℕ). IsFirst live' band pos x (behind pos (Some s)) (step' (Some s) x)) (sym e'.1)
                  (subst (IsFirst live' band pos c (pos s + 1)) (sym hooked.hooked) at_slot))
              | inr e' ↦ subst (IsFirst live' band pos d (behind pos at)) (sym (hooked.elsewhere at d e'))
                  (at_other at d (stood_on at d e' on) e (step at d) (chained.each at d (stood_on at d e' on)))
            ])
      ];
    }

-- ---- the same chain, seen otherwise

-- bands and positions matter only at slots that are in
module _ (live : ℕ → Bool) (band pos band' pos' : ℕ → ℕ) (ln : (u : ℕ) → live u ≡ true → band' u ≡ band u) (ps : (u : ℕ) → live u ≡ true → pos' u ≡ pos u) where
  on_old : (c : ℕ) (o : Option ℕ) → IsOn live band' c o → IsOn live band c o
  on_old c None on = tt
  on_old c (Some u) on = (on.0, sym (ln u on.0) ∙ on.1)

  on_new : (c : ℕ) (o : Option ℕ) → IsOn live band c o → IsOn live band' c o
  on_new c None on = tt
  on_new c (Some u) on = (on.0, ln u on.0 ∙ on.1)

  from_new : (k : ℕ) (c : ℕ) (o : Option ℕ) → IsOn live band c o → IsFrom pos k o → IsFrom pos' k o
  from_new k c None on h = tt
  from_new k c (Some u) on h = let e : pos' u ≡ pos u = ps u on.0 in omega arith

  reaches_new : (c : ℕ) (o : Option ℕ) (u : ℕ) → IsOn live band c o → live u ≡ true → Reaches pos o u → Reaches pos' o u
  reaches_new c None u on lu h = h
  reaches_new c (Some t) u on lu h = let e : pos' u ≡ pos u = ps u lu in let e' : pos' t ≡ pos t = ps t on.0 in omega arith

  behind_new : (c : ℕ) (o : Option ℕ) → IsOn live band c o → behind pos' o ≡ behind pos o
  behind_new c None on = refl
  behind_new c (Some t) on = ap (λ n. n + 1) (ps t on.0)

  pub refirst : (c k : ℕ) (o : Option ℕ) → IsFirst live band pos c k o → IsFirst live band' pos' c k o
  refirst c k o f = record {
    toward = record {
      on = on_new c o f.toward.on;
      reaches = λ u lu lu' h. reaches_new c o u f.toward.on lu (f.toward.reaches u lu (sym (ln u lu) ∙ lu') (let e : pos' u ≡ pos u = ps u lu in omega arith));
    };
    there = from_new k c o f.toward.on f.there;
  }

  pub rechained : (step : Option ℕ → ℕ → Option ℕ) → IsChained live band pos step → IsChained live band' pos' step
  rechained step ch = record {
    each = λ at c on. subst (λ (k : ℕ). IsFirst live band' pos' c k (step at c)) (sym (behind_new c at (on_old c at on)))
        (refirst c (behind pos at) (step at c) (ch.each at c (on_old c at on)));
  }

  pub reapart : AreApart live band pos → AreApart live band' pos'
  reapart a = record { apart = λ u v lu lv l p. a.apart u v lu lv (sym (ln u lu) ∙ l ∙ ln v lv) (sym (ps u lu) ∙ p ∙ ps v lv) }
