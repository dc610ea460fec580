-- The times at which the clock may stop are the stops of the machine, midnight aside.
use Rattle.std.proofs.Common.{◌≡◌, ◌∙◌, ℕ, suc, ◌<◌, true, ◌&&◌, Option, Some, None, length, refl, sym, ap, arith, ◌⊎◌, inl, inr, ◌||◌}
use Rattle.std.specs.Prelude.{nat_eq}
use Rattle.std.specs.List.{list_any}
use Rattle.std.proofs.lemmas.Bool.{and_from, and_parts, eq-eqb, eqb-true, or_cases, or_left, or_right}
use Rattle.batch_records.specs.DayRecord.{Day}
use Rattle.commit_journal.specs.Line.{History}
use Rattle.machine.specs.Words.{some_passes}
use Rattle.machine.specs.Records.Messages.{Sort, Missing, earliest, info_end, is_batch, is_message, message_numbers, sort_of, stated_end}
use Rattle.machine.specs.Telling.History.{is_accepted}
use Rattle.machine.specs.OtherLaws.{is_among}
use Rattle.settlement_laws.specs.NextStop.{IsEndOf, IsStop}
use Rattle.settlement_laws.proofs.DayEnd.Stops.{MessageAt, message_is}
use Rattle.settlement_laws.proofs.Base.Sums.{any-at, any-from}
use Rattle.clock_stops.specs.Stops.{is_batch_end, is_stop_time, states_end}

-- ---- ends

same_time : (o : Option ℕ) (t : ℕ) → some_passes (nat_eq t) o ≡ true → o ≡ Some t
same_time None t h = cc
same_time (Some u) t h = ap Some (sym (eqb-true t u h))

has_time : (o : Option ℕ) (t : ℕ) → o ≡ Some t → some_passes (nat_eq t) o ≡ true
has_time o t e = ap (some_passes (nat_eq t)) e ∙ eq-eqb t t refl

end_is : (day : Day) (t n : ℕ) → states_end day t n ≡ true → IsEndOf day n t
end_is day t n h = elim (or_cases (some_passes (nat_eq t) (info_end day n) || some_passes (nat_eq t) (earliest day n)) (some_passes (nat_eq t) (stated_end day n)) h) [
  | inl b ↦ elim (or_cases (some_passes (nat_eq t) (info_end day n)) (some_passes (nat_eq t) (earliest day n)) b) [
    | inl i ↦ inl (same_time (info_end day n) t i)
    | inr e ↦ inr (inl (same_time (earliest day n) t e))
  ]
  | inr s ↦ inr (inr (same_time (stated_end day n) t s))
]

end_stated : (day : Day) (t n : ℕ) → IsEndOf day n t → states_end day t n ≡ true
end_stated day t n (inl i) = or_left (some_passes (nat_eq t) (info_end day n) || some_passes (nat_eq t) (earliest day n)) _ (or_left (some_passes (nat_eq t) (info_end day n)) _ (has_time (info_end day n) t i))
end_stated day t n (inr (inl e)) = or_left (some_passes (nat_eq t) (info_end day n) || some_passes (nat_eq t) (earliest day n)) _ (or_right (some_passes (nat_eq t) (info_end day n)) _ (has_time (earliest day n) t e))
end_stated day t n (inr (inr s)) = or_right (some_passes (nat_eq t) (info_end day n) || some_passes (nat_eq t) (earliest day n)) _ (has_time (stated_end day n) t s)

-- ---- batches

batch_message : (s : Sort) → is_batch s ≡ true → is_message s ≡ true
batch_message Missing h = cc
batch_message _ h = refl

pub batch_there : (day : Day) (J : History) (t n : ℕ) → is_batch (sort_of day n) ≡ true → is_accepted J n ≡ true → states_end day t n ≡ true → is_stop_time day J t ≡ true
unfolding is_stop_time
batch_there day J t n b a s =
    let at : MessageAt day n = message_is day n (batch_message (sort_of day n) b) in
    let number : n ≡ suc at.place = at.number in
    let within : at.place < length day.messages = at.within in
    or_right (is_among day.stops t) _
    (any-from (is_batch_end day J t) 1 (length day.messages) n (omega (arith, number)) (omega (arith, number, within))
    (and_from (is_batch (sort_of day n) && is_accepted J n) (states_end day t n) (and_from (is_batch (sort_of day n)) (is_accepted J n) b a) s))

-- an accepted batch that states the time
abbrev pub IsBatchWith : Day → History → ℕ → ℕ → Type 0
IsBatchWith day J t n = (is_batch (sort_of day n) ≡ true) × (is_accepted J n ≡ true) × (states_end day t n ≡ true)

pub batch_found : (day : Day) (J : History) (t : ℕ) → list_any (is_batch_end day J t) (message_numbers day) ≡ true → (n : ℕ) × IsBatchWith day J t n
batch_found day J t h =
    let r = any-at (is_batch_end day J t) 1 (length day.messages) h in
    let p = and_parts (is_batch (sort_of day r.0) && is_accepted J r.0) (states_end day t r.0) r.3 in
    let q = and_parts (is_batch (sort_of day r.0)) (is_accepted J r.0) p.0 in
    (r.0, (q.0, q.1, p.1))

-- ---- stops

pub stop_is : (day : Day) (J : History) (t : ℕ) → is_stop_time day J t ≡ true → IsStop day J t
unfolding is_stop_time
stop_is day J t h = elim (or_cases (is_among day.stops t) (list_any (is_batch_end day J t) (message_numbers day)) h) [
  | inl s ↦ inr (inl s)
  | inr b ↦ inr (inr (with_end (batch_found day J t b)))
]
  where
    with_end : (n : ℕ) × IsBatchWith day J t n → (n : ℕ) × (is_batch (sort_of day n) ≡ true) × (is_accepted J n ≡ true) × IsEndOf day n t
    with_end (n, (b, a, s)) = (n, b, a, end_is day t n s)

pub stop_time : (day : Day) (J : History) (t : ℕ) → IsStop day J t → (t ≡ 86400) ⊎ (is_stop_time day J t ≡ true)
unfolding is_stop_time
stop_time day J t (inl e) = inl e
stop_time day J t (inr (inl s)) = inr (or_left (is_among day.stops t) _ s)
stop_time day J t (inr (inr (n, b, a, e))) = inr (batch_there day J t n b a (end_stated day t n e))
