-- The next stop of the machine is the first time of the set after the clock, or midnight.
use Rattle.std.proofs.Common.{◌≡◌, ◌∙◌, ℕ, ◌+◌, ◌<◌, ◌≤◌, Bool, true, false, ◌&&◌, List, Some, None, length, refl, sym, subst, arith, min, ◌⊎◌, inl, inr}
use Rattle.std.specs.Prelude.{if◌then◌else◌, fold, nat_lt, unwrap_or}
use Rattle.std.proofs.lemmas.Bool.{cases_lt, false≢true, ltb-true}
use Rattle.std.proofs.lemmas.List.{get_or_past}
use Rattle.batch_records.specs.DayRecord.{Day}
use Rattle.commit_journal.specs.Line.{History}
use Rattle.machine.specs.Records.Messages.{earliest, info_end, is_batch, message_numbers, settlement_end, sort_of}
use Rattle.machine.specs.Telling.History.{clock, is_accepted}
use Rattle.machine.specs.Making.Lines.{lesser, lesser_end, next_stop}
use Rattle.settlement_laws.proofs.Base.Folds.{fold_keeps}
use Rattle.settlement_laws.proofs.DayEnd.NextStopIsTheLeast.{next_stop_is_the_least}
use Rattle.number_set.specs.Members.{has}
use Rattle.number_set.specs.Next.{IsLeast, IsNext}
use Rattle.clock_stops.specs.Kept.{KeepsStops}
use Rattle.clock_stops.specs.Stops.{is_stop_time}
use Rattle.clock_stops.proofs.StopFacts.{stop_is, stop_time}

-- ---- the next stop is midnight, or above the clock

abbrev IsAhead : History → ℕ → Type 0
IsAhead J m = (m ≡ 86400) ⊎ (clock J < m)

lesser_ahead : (J : History) (m t : ℕ) → IsAhead J m → IsAhead J (lesser J m t)
lesser_ahead J m t h = here (nat_lt (clock J) t) refl
  where
    here : (b : Bool) → nat_lt (clock J) t ≡ b → IsAhead J (if b then min m t else m)
    here true e = elim (cases_lt m t) [
      | inl l ↦ let same : m ≡ min m t = omega (arith, l) in subst (IsAhead J) same h
      | inr l ↦ let same : t ≡ min m t = omega (arith, l) in subst (IsAhead J) same (inr (ltb-true (clock J) t e))
    ]
    here false e = h

end_ahead : (day : Day) (J : History) (m n : ℕ) → IsAhead J m → IsAhead J (lesser_end day J m n)
end_ahead day J m n h = here (is_batch (sort_of day n) && is_accepted J n)
  where
    informed : ℕ
    informed = lesser J m (unwrap_or (info_end day n) 86400)

    started : ℕ
    started = lesser J informed (unwrap_or (earliest day n) 86400)

    here : (b : Bool) → IsAhead J (if b then lesser J started (settlement_end day n) else m)
    here true = lesser_ahead J started (settlement_end day n) (lesser_ahead J informed (unwrap_or (earliest day n) 86400) (lesser_ahead J m (unwrap_or (info_end day n) 86400) h))
    here false = h

next_ahead : (day : Day) (J : History) → IsAhead J (next_stop day J)
unfolding next_stop
next_ahead day J =
    fold_keeps (IsAhead J) (lesser_end day J) (fold (lesser J) 86400 day.stops) (message_numbers day) (λ m n _ h. end_ahead day J m n h)
    (fold_keeps (IsAhead J) (lesser J) 86400 day.stops (λ m t _ h. lesser_ahead J m t h) (inl refl))

-- ---- by the set

module _ (day : Day) (J : History) (times : List Bool) (keeps : KeepsStops day J times) where
  -- a time of the set is one of the day
  within : (t : ℕ) → is_stop_time day J t ≡ true → t < 86401
  within t s = elim (cases_lt t 86401) [
    | inl low ↦ low
    | inr past ↦
        let size : length times ≡ 86401 = keeps.size in
        absurd (false≢true (sym (get_or_past times t false (omega (arith, size, past))) ∙ keeps.exact t ∙ s))
  ]

  next_is : (next_stop day J ≡ 86400) ⊎ ((is_stop_time day J (next_stop day J) ≡ true) × (clock J < next_stop day J))
  next_is = here (next_ahead day J) (stop_time day J (next_stop day J) (next_stop_is_the_least day J).0)
    where
      here : IsAhead J (next_stop day J) → (next_stop day J ≡ 86400) ⊎ (is_stop_time day J (next_stop day J) ≡ true) → (next_stop day J ≡ 86400) ⊎ ((is_stop_time day J (next_stop day J) ≡ true) × (clock J < next_stop day J))
      here (inl e) s = inl e
      here (inr a) (inl e) = inl e
      here (inr a) (inr s) = inr (s, a)

  -- at midnight
  last_stop : 86400 ≤ clock J → 86400 ≡ next_stop day J
  last_stop late = elim next_is [
    | inl e ↦ sym e
    | inr s ↦ let low = within (next_stop day J) s.0 in let above = s.1 in absurd (omega (arith, late, low, above))
  ]

  none_left : ((k : ℕ) → clock J + 1 ≤ k → has times k ≡ false) → 86400 ≡ next_stop day J
  none_left none = elim next_is [
    | inl e ↦ sym e
    | inr s ↦ let above = s.1 in absurd (false≢true (sym (none (next_stop day J) (omega (arith, above))) ∙ keeps.exact (next_stop day J) ∙ s.0))
  ]

  next_found : (t : ℕ) → IsLeast (has times) (clock J + 1) t → t ≡ next_stop day J
  next_found t least =
      let stop : is_stop_time day J t ≡ true = sym (keeps.exact t) ∙ least.passes in
      let low = within t stop in
      let above = least.at_least in
      let at_most : next_stop day J ≤ t = (next_stop_is_the_least day J).2 t (stop_is day J t stop) (omega (arith, above)) in
      let at_least : t ≤ next_stop day J = elim next_is [
        | inl e ↦ omega (arith, e, low)
        | inr s ↦ elim (cases_lt (next_stop day J) t) [
          | inl less ↦ let ahead = s.1 in absurd (false≢true (sym (least.none_before (next_stop day J) (omega (arith, ahead)) less) ∙ keeps.exact (next_stop day J) ∙ s.0))
          | inr more ↦ more
        ]
      ] in
      omega (arith, at_most, at_least)

-- ---- of a clock that stands where the history says

pub at_midnight : (day : Day) (J : History) (times : List Bool) (time : ℕ) → KeepsStops day J times → time ≡ clock J → 86400 ≤ time → 86400 ≡ next_stop day J
at_midnight day J times time keeps e late = last_stop day J times keeps (omega (arith, e, late))

pub next_in_set : (day : Day) (J : History) (times : List Bool) (time t : ℕ) → KeepsStops day J times → time ≡ clock J → IsNext (has times) (time + 1) (Some t) → t ≡ next_stop day J
next_in_set day J times time t keeps e least = next_found day J times keeps t (subst (λ c. IsLeast (has times) (c + 1) t) e least)

pub none_in_set : (day : Day) (J : History) (times : List Bool) (time : ℕ) → KeepsStops day J times → time ≡ clock J → IsNext (has times) (time + 1) None → 86400 ≡ next_stop day J
none_in_set day J times time keeps e none = none_left day J times keeps (λ k low. none k (omega (arith, e, low)))
