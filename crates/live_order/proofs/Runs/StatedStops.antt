-- The stops that a day states: which of them a clock has passed, and which come next.
use Rattle.std.proofs.Common.{◌≡◌, ◌∙◌, ℕ, zero, suc, ◌+◌, ◌<◌, ◌≤◌, arith, Bool, true, false, List, [], ◌∷◌, length, Option, Some, None, refl, ap}
use Rattle.std.specs.Prelude.{if◌then◌else◌, nat_eq, nat_lt, nat_le, count_by, slice_get, unwrap_or}
use Rattle.std.proofs.lemmas.Bool.{and_parts, or_left, or_right, le-leb, lt-leb, ltb-true, eq-eqb, cond-true, cond-false}
use Rattle.std.proofs.lemmas.List.Sums.{sum_by-cons, count_by-le-length}
use Rattle.batch_records.specs.DayRecord.{Day}
use Rattle.batch_records.specs.Sound.{is_sound, stops_rise}
use Rattle.commit_journal.specs.Line.{History}
use Rattle.machine.specs.Telling.History.{clock}
use Rattle.machine.specs.Telling.Facts.{round}
use Rattle.machine.specs.OtherLaws.{is_among}
use Rattle.settlement_laws.proofs.Base.SoundParts.{sound_parts, stop_early}
use Rattle.settlement_laws.proofs.DayEnd.Progress.{get_there}
use Rattle.live_order.specs.LiveOrder.{stop_at}

-- a stop that isn't passed leaves fewer passed than there are
not_all_passed : (c : ℕ) (stops : List ℕ) (i t : ℕ) → slice_get stops i ≡ Some t → c < t → count_by (λ stop. nat_le stop c) stops < length stops
not_all_passed c [] i t e l = cc
not_all_passed c (s ∷ ss) zero t e l =
    let same : s ≡ t = cc in
    let one : ℕ = 1 in
    let f : (if nat_le s c then one else 0) ≡ 0 = cond-false (nat_le s c) one 0 (lt-leb s c (omega arith)) in
    let k : count_by (λ stop. nat_le stop c) (s ∷ ss) ≡ (if nat_le s c then one else 0) + count_by (λ stop. nat_le stop c) ss = sum_by-cons (λ u. if nat_le u c then 1 else 0) s ss in
    let m : count_by (λ stop. nat_le stop c) ss ≤ length ss = count_by-le-length (λ stop. nat_le stop c) ss in
    omega (arith, f, k, m)
not_all_passed c (s ∷ ss) (suc i) t e l =
    let one : ℕ = 1 in
    let k : count_by (λ stop. nat_le stop c) (s ∷ ss) ≡ (if nat_le s c then one else 0) + count_by (λ stop. nat_le stop c) ss = sum_by-cons (λ u. if nat_le u c then 1 else 0) s ss in
    let m = not_all_passed c ss i t e l in
    let b : (if nat_le s c then one else 0) ≤ 1 = at_most (nat_le s c) in
    omega (arith, k, m, b)
  where
    at_most : (b : Bool) → (if b then 1 else 0) ≤ 1
    at_most true = omega arith
    at_most false = omega arith

-- a stop that the clock has come to is passed, and so are those before it
passed_at : (c before : ℕ) (stops : List ℕ) (j t : ℕ) → stops_rise before stops ≡ true → slice_get stops j ≡ Some t → t ≤ c → suc j ≤ count_by (λ stop. nat_le stop c) stops
passed_at c before [] j t h e l = cc
passed_at c before (s ∷ ss) zero t h e l =
    let same : s ≡ t = cc in
    let one : ℕ = 1 in
    let f : (if nat_le s c then one else 0) ≡ 1 = cond-true (nat_le s c) one 0 (le-leb s c (omega arith)) in
    let k : count_by (λ stop. nat_le stop c) (s ∷ ss) ≡ (if nat_le s c then one else 0) + count_by (λ stop. nat_le stop c) ss = sum_by-cons (λ u. if nat_le u c then 1 else 0) s ss in
    omega (arith, f, k)
passed_at c before (s ∷ ss) (suc j) t h e l =
    let p = and_parts _ (stops_rise s ss) h in
    let low : s < t = later_above s ss j t p.1 e in
    let one : ℕ = 1 in
    let f : (if nat_le s c then one else 0) ≡ 1 = cond-true (nat_le s c) one 0 (le-leb s c (omega arith)) in
    let k : count_by (λ stop. nat_le stop c) (s ∷ ss) ≡ (if nat_le s c then one else 0) + count_by (λ stop. nat_le stop c) ss = sum_by-cons (λ u. if nat_le u c then 1 else 0) s ss in
    let m = passed_at c s ss j t p.1 e l in
    omega (arith, f, k, m)
  where
    later_above : (before : ℕ) (stops : List ℕ) (j t : ℕ) → stops_rise before stops ≡ true → slice_get stops j ≡ Some t → before < t
    later_above before [] j t h e = cc
    later_above before (s ∷ ss) zero t h e =
        let p = and_parts _ (stops_rise s ss) h in
        let r : before < s = ltb-true _ _ (and_parts (nat_lt before s) (nat_lt s 86400) p.0).0 in
        let same : s ≡ t = cc in
        omega (arith, r)
    later_above before (s ∷ ss) (suc j) t h e =
        let p = and_parts _ (stops_rise s ss) h in
        let r : before < s = ltb-true _ _ (and_parts (nat_lt before s) (nat_lt s 86400) p.0).0 in
        let k = later_above s ss j t p.1 e in
        omega (arith, r, k)

-- a stop is above the one before it
next_above : (before : ℕ) (stops : List ℕ) (j s t : ℕ) → stops_rise before stops ≡ true → slice_get stops j ≡ Some s → slice_get stops (suc j) ≡ Some t → s < t
next_above before [] j s t h e f = cc
next_above before (x ∷ []) j s t h e f = cc
next_above before (x ∷ y ∷ zs) zero s t h e f =
    let p = and_parts _ (stops_rise x (y ∷ zs)) h in
    let q = and_parts _ (stops_rise y zs) p.1 in
    let r : x < y = ltb-true _ _ (and_parts (nat_lt x y) (nat_lt y 86400) q.0).0 in
    let a : x ≡ s = cc in
    let b : y ≡ t = cc in
    omega (arith, r)
next_above before (x ∷ y ∷ zs) (suc j) s t h e f = next_above x (y ∷ zs) j s t (and_parts _ (stops_rise x (y ∷ zs)) h).1 e f

pub get_among : (stops : List ℕ) (j t : ℕ) → slice_get stops j ≡ Some t → is_among stops t ≡ true
get_among [] j t e = cc
get_among (s ∷ ss) zero t e = or_left (nat_eq s t) (is_among ss t) (eq-eqb s t (let same : s ≡ t = cc in same))
get_among (s ∷ ss) (suc j) t e = or_right (nat_eq s t) (is_among ss t) (get_among ss j t e)

-- ---- the r-th stop

-- a clock below one of the stops has not passed all
pub before_last : (day : Day) (r c : ℕ) → c < stop_at day r → count_by (λ stop. nat_le stop c) day.stops < length day.stops
before_last day zero c l = absurd (omega arith)
before_last day (suc j) c l = here (slice_get day.stops j) refl l
  where
    here : (o : Option ℕ) → slice_get day.stops j ≡ o → c < unwrap_or o 0 → count_by (λ stop. nat_le stop c) day.stops < length day.stops
    here None e k = absurd (omega arith)
    here (Some t) e k = not_all_passed c day.stops j t e k

module _ (day : Day) (sound : is_sound day ≡ true) where
  pub stop_low : (r : ℕ) → stop_at day r < 86400
  stop_low zero = omega arith
  stop_low (suc j) = here (slice_get day.stops j) refl
    where
      here : (o : Option ℕ) → slice_get day.stops j ≡ o → unwrap_or o 0 < 86400
      here None e = omega arith
      here (Some t) e = stop_early 0 day.stops j t (sound_parts day sound).stops e

  -- the r-th stop is reached where the clock stands at it
  pub round_at : (r : ℕ) → r ≤ length day.stops → (J : History) → clock J ≡ stop_at day r → r ≤ round day J
  round_at zero l J e = omega arith
  round_at (suc j) l J e =
      let f = get_there day.stops j (omega arith) in
      let t : clock J ≡ f.0 = e ∙ ap (λ o. unwrap_or o 0) f.1 in
      passed_at (clock J) 0 day.stops j f.0 (sound_parts day sound).stops f.1 (omega (arith, t))

  pub stops_next : (r : ℕ) → suc r ≤ length day.stops → stop_at day r ≤ stop_at day (suc r)
  stops_next zero l = omega arith
  stops_next (suc j) l =
      let f = get_there day.stops j (omega arith) in
      let h = get_there day.stops (suc j) (omega arith) in
      let a : stop_at day (suc j) ≡ f.0 = ap (λ o. unwrap_or o 0) f.1 in
      let b : stop_at day (suc (suc j)) ≡ h.0 = ap (λ o. unwrap_or o 0) h.1 in
      let k = next_above 0 day.stops j f.0 h.0 (sound_parts day sound).stops f.1 h.1 in
      omega (arith, a, b, k)
