-- The next stop is a stop, and no stop above the clock is below it.
use Rattle.std.proofs.Common.{◌≡◌, ℕ, suc, ◌<◌, ◌≤◌, Bool, true, false, ◌&&◌, List, [], ◌∷◌, length, Option, Some, None, refl, sym, ap, subst, arith, min, inl, inr}
use Rattle.std.specs.Prelude.{if◌then◌else◌, nat_lt, nat_eq, fold, unwrap_or}
use Rattle.std.proofs.lemmas.Bool.{ltb-true, ltb-false, eqb-true, or_cases, and_from}
use Rattle.batch_records.specs.DayRecord.{Day}
use Rattle.commit_journal.specs.Line.{History}
use Rattle.machine.specs.Records.Messages.{Sort, Missing, sort_of, is_message, is_batch, message_numbers, info_end, earliest, stated_end, settlement_end}
use Rattle.machine.specs.Telling.History.{clock, is_accepted}
use Rattle.machine.specs.Making.Lines.{lesser, lesser_end, next_stop}
use Rattle.machine.specs.OtherLaws.{is_among}
use Rattle.settlement_laws.specs.NextStop.{IsEndOf, IsStop, NextStopIsTheLeast}
use Rattle.settlement_laws.proofs.Base.Lists.{IsIn, in_range}
use Rattle.settlement_laws.proofs.Base.Folds.{fold_keeps, fold_meets}
use Rattle.settlement_laws.proofs.DayEnd.Stops.{MessageAt, message_is, next_stop-bounds}
use Rattle.settlement_laws.proofs.Balances.TouchesItsAccounts.{among}

-- ---- the lesser of two times

-- is one of them
lesser_is : (Q : ℕ → Type 0) (J : History) (m t : ℕ) → Q m → Q t → Q (lesser J m t)
lesser_is Q J m t h k = here (nat_lt (clock J) t)
  where
    there : (b : Bool) → nat_lt m t ≡ b → Q (min m t)
    there true e = let l = ltb-true m t e in let same : m ≡ min m t = omega (arith, l) in subst Q same h
    there false e = let l = ltb-false m t e in let same : t ≡ min m t = omega (arith, l) in subst Q same k

    here : (b : Bool) → Q (if b then min m t else m)
    here true = there (nat_lt m t) refl
    here false = h

-- stays at most u
lesser_stays : (J : History) (u m t : ℕ) → m ≤ u → lesser J m t ≤ u
lesser_stays J u m t h = here (nat_lt (clock J) t)
  where
    here : (b : Bool) → (if b then min m t else m) ≤ u
    here true = omega (arith, h)
    here false = h

-- is at most the second, where that is above the clock
lesser_meets : (J : History) (m t : ℕ) → clock J < t → lesser J m t ≤ t
lesser_meets J m t h = here (nat_lt (clock J) t) refl
  where
    here : (b : Bool) → nat_lt (clock J) t ≡ b → (if b then min m t else m) ≤ t
    here true e = omega arith
    here false e = let l = ltb-false (clock J) t e in absurd (omega (arith, h, l))

-- ---- with the ends of a message

abbrev info_of : Day → ℕ → ℕ
info_of day n = unwrap_or (info_end day n) 86400

abbrev early_of : Day → ℕ → ℕ
early_of day n = unwrap_or (earliest day n) 86400

abbrev started : Day → History → ℕ → ℕ → ℕ
started day J m n = lesser J (lesser J m (info_of day n)) (early_of day n)

end_is : (Q : ℕ → Type 0) (day : Day) (J : History) (m n : ℕ) → Q 86400 → (is_batch (sort_of day n) ≡ true → is_accepted J n ≡ true → (t : ℕ) → IsEndOf day n t → Q t) → Q m → Q (lesser_end day J m n)
end_is Q day J m n late k h = here (is_batch (sort_of day n)) (is_accepted J n) refl refl
  where
    either : (o : Option ℕ) → ((t : ℕ) → o ≡ Some t → Q t) → Q (unwrap_or o 86400)
    either None f = late
    either (Some t) f = f t refl

    here : (b c : Bool) → is_batch (sort_of day n) ≡ b → is_accepted J n ≡ c → Q (if b && c then lesser J (started day J m n) (settlement_end day n) else m)
    here true true d e =
        lesser_is Q J (started day J m n) (settlement_end day n)
        (lesser_is Q J (lesser J m (info_of day n)) (early_of day n)
        (lesser_is Q J m (info_of day n) h (either (info_end day n) (λ t q. k d e t (inl q))))
        (either (earliest day n) (λ t q. k d e t (inr (inl q)))))
        (either (stated_end day n) (λ t q. k d e t (inr (inr q))))
    here true false d e = h
    here false c d e = h

end_stays : (day : Day) (J : History) (u m n : ℕ) → m ≤ u → lesser_end day J m n ≤ u
end_stays day J u m n h = here (is_batch (sort_of day n) && is_accepted J n)
  where
    here : (b : Bool) → (if b then lesser J (started day J m n) (settlement_end day n) else m) ≤ u
    here true = lesser_stays J u (started day J m n) (settlement_end day n) (lesser_stays J u (lesser J m (info_of day n)) (early_of day n) (lesser_stays J u m (info_of day n) h))
    here false = h

end_meets : (day : Day) (J : History) (m n t : ℕ) → is_batch (sort_of day n) ≡ true → is_accepted J n ≡ true → IsEndOf day n t → clock J < t → lesser_end day J m n ≤ t
end_meets day J m n t b a e h = here (is_batch (sort_of day n) && is_accepted J n) (and_from (is_batch (sort_of day n)) (is_accepted J n) b a)
  where
    there : IsEndOf day n t → lesser J (started day J m n) (settlement_end day n) ≤ t
    there (inl q) =
        let i : t ≡ info_of day n = ap (λ o. unwrap_or o 86400) (sym q) in
        lesser_stays J t (started day J m n) (settlement_end day n) (lesser_stays J t (lesser J m (info_of day n)) (early_of day n) (subst (λ s. lesser J m s ≤ t) i (lesser_meets J m t h)))
    there (inr (inl q)) =
        let i : t ≡ early_of day n = ap (λ o. unwrap_or o 86400) (sym q) in
        lesser_stays J t (started day J m n) (settlement_end day n) (subst (λ s. lesser J (lesser J m (info_of day n)) s ≤ t) i (lesser_meets J (lesser J m (info_of day n)) t h))
    there (inr (inr q)) =
        let i : t ≡ settlement_end day n = ap (λ o. unwrap_or o 86400) (sym q) in
        subst (λ s. lesser J (started day J m n) s ≤ t) i (lesser_meets J (started day J m n) t h)

    here : (c : Bool) → c ≡ true → (if c then lesser J (started day J m n) (settlement_end day n) else m) ≤ t
    here true d = there e
    here false d = cc

-- ---- a batch has one of the numbers, and a stated stop stands in its list

batch_message : (s : Sort) → is_batch s ≡ true → is_message s ≡ true
batch_message Missing h = cc
batch_message _ h = refl

batch_in : (day : Day) (n : ℕ) → is_batch (sort_of day n) ≡ true → IsIn n (message_numbers day)
batch_in day n b =
    let at : MessageAt day n = message_is day n (batch_message (sort_of day n) b) in
    let number : n ≡ suc at.place = at.number in
    let within : at.place < length day.messages = at.within in
    in_range 1 (length day.messages) n (omega (arith, number)) (omega (arith, number, within))

among_in : (ts : List ℕ) (t : ℕ) → is_among ts t ≡ true → IsIn t ts
among_in [] t h = cc
among_in (u ∷ us) t h =
    elim (or_cases (nat_eq u t) (is_among us t) h) [
      | inl e ↦ inl (eqb-true u t e)
      | inr r ↦ inr (among_in us t r)
    ]

-- ---- the next stop

abbrev by_day : Day → History → ℕ
by_day day J = fold (lesser J) 86400 day.stops

pub next_stop_is_the_least : (day : Day) (J : History) → NextStopIsTheLeast day J
unfolding next_stop
next_stop_is_the_least day J = (a_stop, (λ h. (next_stop-bounds day J h).0), least)
  where
    a_stop : IsStop day J (next_stop day J)
    a_stop =
        fold_keeps (IsStop day J) (lesser_end day J) (by_day day J) (message_numbers day)
        (λ m n _ h. end_is (IsStop day J) day J m n (inl refl) (λ b a t e. inr (inr (n, b, a, e))) h)
        (fold_keeps (IsStop day J) (lesser J) 86400 day.stops (λ m t i h. lesser_is (IsStop day J) J m t h (inr (inl (among day.stops t i)))) (inl refl))

    -- what is so of the day's stops stays so with the ends
    stays : (u : ℕ) → by_day day J ≤ u → next_stop day J ≤ u
    stays u h = fold_keeps (λ m. m ≤ u) (lesser_end day J) (by_day day J) (message_numbers day) (λ m n _ k. end_stays day J u m n k) h

    least : (t : ℕ) → IsStop day J t → clock J < t → next_stop day J ≤ t
    least t (inl e) h = stays t (fold_keeps (λ m. m ≤ t) (lesser J) 86400 day.stops (λ m u _ k. lesser_stays J t m u k) (omega (arith, e)))
    least t (inr (inl s)) h = stays t (fold_meets (λ m. m ≤ t) (lesser J) (λ m u k. lesser_stays J t m u k) t (λ m. lesser_meets J m t h) 86400 day.stops (among_in day.stops t s))
    least t (inr (inr (n, b, a, e))) h =
        fold_meets (λ m. m ≤ t) (lesser_end day J) (λ m i k. end_stays day J t m i k) n (λ m. end_meets day J m n t b a e h) (by_day day J) (message_numbers day) (batch_in day n b)
