-- Rounds of messages: they don't fall, and the first message of a round is found among them.
use Rattle.std.proofs.Common.{◌≡◌, ℕ, zero, suc, ◌+◌, ◌<◌, ◌≤◌, true, false, List, [], ◌∷◌, length, map, get_or, refl, ap, sym, subst, arith, ◌∙◌, ⊎_elim}
use Rattle.std.specs.Prelude.{nat_le, nat_lt, slice_get, unwrap_or}
use Rattle.std.specs.List.{find}
use Rattle.std.specs.List.Sorted.{IsPartitionedBy, IsPartitionPoint}
use Rattle.std.specs.Option.{option_map_or}
use Rattle.std.proofs.lemmas.Bool.{cases_lt, le-leb, leb-true, leb-false, lt-leb, ltb-true, ltb-false}
use Rattle.std.proofs.lemmas.List.{length-map}
use Rattle.std.proofs.lemmas.List.Sorted.{IsPartitionedBy-ltb}
use Rattle.batch_records.specs.DayRecord.{Day}
use Rattle.batch_records.specs.Flat.{with_entries, without_entries}
use Rattle.batch_records.specs.declared.day.Message.{Message}
use Rattle.batch_records.specs.declared.day.MessageRecord.{MessageRecord}
use Rattle.batch_records.specs.Sound.{is_sound}
use Rattle.machine.specs.Records.Messages.{message_numbers, round_of}
use Rattle.settlement_laws.proofs.DayEnd.Progress.{message_at-in}
use Rattle.settlement_laws.proofs.Base.SoundParts.{round_within, rounds_in_order, sound_parts}
use Rattle.settlement_laws.proofs.DayEnd.Stops.{MessageAt, round_is}
use Rattle.lane_workers.specs.Stints.{first_of}
use Rattle.lane_workers.proofs.Ranges.{IsFirst, first_found, first_only}

-- a later message is of no earlier round
pub later_round : (day : Day) (i n : ℕ) → is_sound day ≡ true → 0 < i → i ≤ n → n ≤ length day.messages → round_of day i ≤ round_of day n
later_round day i n sound low le high =
    let at_i : MessageAt day i = (message_at-in day i (omega (arith, low)) (omega (arith, le, high))).0 in
    let at_n : MessageAt day n = (message_at-in day n (omega (arith, low, le)) (omega (arith, high))).0 in
    let a : round_of day i ≡ at_i.message.round = round_is day i at_i in
    let b : round_of day n ≡ at_n.message.round = round_is day n at_n in
    let i_is : i ≡ suc at_i.place = at_i.number in
    let n_is : n ≡ suc at_n.place = at_n.number in
    let o : at_i.message.round ≤ at_n.message.round =
    rounds_in_order (length day.stops) 0 day.messages at_i.place at_n.place at_i.message at_n.message (sound_parts day sound).rounds (omega (arith, i_is, n_is, le)) at_i.there at_n.there in
    omega (arith, a, b, o)

-- each message is of a round of the day
pub round_in_day : (day : Day) (n : ℕ) → is_sound day ≡ true → 0 < n → n ≤ length day.messages → round_of day n ≤ length day.stops
round_in_day day n sound low high =
    let at : MessageAt day n = (message_at-in day n (omega (arith, low)) (omega (arith, high))).0 in
    let a : round_of day n ≡ at.message.round = round_is day n at in
    let l : at.message.round ≤ length day.stops = round_within (length day.stops) 0 day.messages at.place at.message (sound_parts day sound).rounds at.there in
    omega (arith, a, l)

-- ---- the first of a round

pub is_first : (day : Day) (r : ℕ) → IsFirst (λ n. nat_le r (round_of day n)) 1 (length day.messages) (first_of day r)
is_first day r =
    let e : 1 + length day.messages ≡ suc (length day.messages) = omega arith in
    subst (λ (d : ℕ). IsFirst (λ n. nat_le r (round_of day n)) 1 (length day.messages) (unwrap_or (find (λ n. nat_le r (round_of day n)) (message_numbers day)) d)) e
    (first_found (λ n. nat_le r (round_of day n)) 1 (length day.messages))

pub before_first : (day : Day) (r n : ℕ) → 0 < n → n < first_of day r → round_of day n < r
before_first day r n low less = leb-false r (round_of day n) ((is_first day r).before n (omega (arith, low)) less)

pub from_first : (day : Day) (r n : ℕ) → is_sound day ≡ true → first_of day r ≤ n → n ≤ length day.messages → r ≤ round_of day n
from_first day r n sound from high =
    let first = is_first day r in
    let low = first.low in
    let here : r ≤ round_of day (first_of day r) = leb-true r _ (first.here (omega (arith, from, high))) in
    let later : round_of day (first_of day r) ≤ round_of day n = later_round day (first_of day r) n sound (omega (arith, low)) from high in
    omega (arith, here, later)

-- the first message of a round isn't after that of a later round
pub firsts_rise : (day : Day) (r q : ℕ) → is_sound day ≡ true → r ≤ q → first_of day r ≤ first_of day q
firsts_rise day r q sound le =
    ⊎_elim
    (λ (less : first_of day q < first_of day r).
    let a = is_first day r in
    let b = is_first day q in
    let high = a.high in
    let low = b.low in
    let x : round_of day (first_of day q) < r = before_first day r (first_of day q) (omega (arith, low)) less in
    let y : q ≤ round_of day (first_of day q) = from_first day q (first_of day q) sound (omega arith) (omega (arith, less, high)) in
    absurd (omega (arith, x, y, le)))
    (λ (ge : first_of day r ≤ first_of day q). ge)
    (cases_lt (first_of day q) (first_of day r))

-- ---- as the messages are searched for it

at_place : (day : Day) (i : ℕ) (m : Message) → i < length day.messages → round_of day (suc i) ≡ (get_or day.messages i m).round
at_place day i m within = here day.messages i within
  where
    here : (ms : List Message) (k : ℕ) → k < length ms → option_map_or (λ (x : Message). x.round) (slice_get ms k) 0 ≡ (get_or ms k m).round
    here [] k l = absurd (omega (arith, l))
    here (x ∷ ms) zero l = refl
    here (x ∷ ms) (suc k) l = here ms k (omega (arith, l))

pub are_partitioned : (day : Day) (r : ℕ) → is_sound day ≡ true → IsPartitionedBy (λ (m : Message). nat_lt m.round r) day.messages
are_partitioned day r sound = IsPartitionedBy-ltb (λ (m : Message). m.round) day.messages r (λ i j d le within.
    let a : round_of day (suc i) ≡ (get_or day.messages i d).round = at_place day i d (omega (arith, le, within)) in
    let b : round_of day (suc j) ≡ (get_or day.messages j d).round = at_place day j d within in
    let o : round_of day (suc i) ≤ round_of day (suc j) = later_round day (suc i) (suc j) sound (omega arith) (omega (arith, le)) (omega (arith, within)) in
    omega (arith, a, b, o))

pub first_at : (day : Day) (r i : ℕ) → is_sound day ≡ true → i ≤ length day.messages
    → IsPartitionPoint (λ (m : Message). nat_lt m.round r ≡ true) (λ (m : Message). nat_lt m.round r ≡ false) day.messages i → i + 1 ≡ first_of day r
first_at day r i sound within point = first_only (λ n. nat_le r (round_of day n)) 1 (length day.messages) (i + 1) (first_of day r) (record { low = omega arith; high = omega (arith, within); before = failing; here = passing }) (is_first day r)
  where
    any : (n : ℕ) → 1 ≤ n → n ≤ length day.messages → Message
    any n low high = (message_at-in day n low (omega (arith, high))).0.message

    failing : (k : ℕ) → 1 ≤ k → k < i + 1 → nat_le r (round_of day k) ≡ false
    failing zero low less = absurd (omega (arith, low))
    failing (suc k) low less =
        let d = any (suc k) low (omega (arith, less, within)) in
        let at : round_of day (suc k) ≡ (get_or day.messages k d).round = at_place day k d (omega (arith, less, within)) in
        let l : (get_or day.messages k d).round < r = ltb-true _ r (point.0 k d (omega arith) (omega (arith, less))) in
        lt-leb r (round_of day (suc k)) (omega (arith, at, l))

    passing : i + 1 < 1 + length day.messages → nat_le r (round_of day (i + 1)) ≡ true
    passing less =
        let d = any (suc i) (omega arith) (omega (arith, less)) in
        let at : round_of day (suc i) ≡ (get_or day.messages i d).round = at_place day i d (omega (arith, less)) in
        let l : r ≤ (get_or day.messages i d).round = ltb-false _ r (point.1 i d (omega arith) (omega (arith, less))) in
        let e : i + 1 ≡ suc i = omega arith in
        le-leb r (round_of day (i + 1)) (omega (arith, ap (round_of day) e, at, l))

-- ---- the same in the records of the messages

round_recorded : (ms : List Message) (j : ℕ) (d : MessageRecord) → (get_or (map without_entries ms) j d).round ≡ (get_or ms j (with_entries d [])).round
round_recorded [] j d = refl
round_recorded (m ∷ ms) zero d = refl
round_recorded (m ∷ ms) (suc j) d = round_recorded ms j d

message_recorded : (ms : List Message) (j : ℕ) (d : Message) → (get_or (map without_entries ms) j (without_entries d)).round ≡ (get_or ms j d).round
message_recorded [] j d = refl
message_recorded (m ∷ ms) zero d = refl
message_recorded (m ∷ ms) (suc j) d = message_recorded ms j d

pub are_partitioned_records : (day : Day) (r : ℕ) → is_sound day ≡ true → IsPartitionedBy (λ (m : MessageRecord). nat_lt m.round r) (map without_entries day.messages)
are_partitioned_records day r sound i j d le within p =
    let inside : j < length day.messages = omega (arith, within, length-map day.messages without_entries) in
    ap (λ k. nat_lt k r) (round_recorded day.messages i d)
    ∙ are_partitioned day r sound i j (with_entries d []) le inside (sym (ap (λ k. nat_lt k r) (round_recorded day.messages j d)) ∙ p)

pub first_at_records : (day : Day) (r i : ℕ) (rs : List MessageRecord) → rs ≡ map without_entries day.messages → is_sound day ≡ true → i ≤ length rs
    → IsPartitionPoint (λ (m : MessageRecord). nat_lt m.round r ≡ true) (λ (m : MessageRecord). nat_lt m.round r ≡ false) rs i → i + 1 ≡ first_of day r
first_at_records day r i rs e sound within point =
    let size : length rs ≡ length day.messages = ap length e ∙ length-map day.messages without_entries in
    let here : (k : ℕ) (d : Message) → nat_lt (get_or rs k (without_entries d)).round r ≡ nat_lt (get_or day.messages k d).round r =
    λ k d. ap (λ (xs : List MessageRecord). nat_lt (get_or xs k (without_entries d)).round r) e ∙ ap (λ n. nat_lt n r) (message_recorded day.messages k d) in
    first_at day r i sound (omega (arith, within, size))
    (λ k d low high. sym (here k d) ∙ point.0 k (without_entries d) low high, λ k d low high. sym (here k d) ∙ point.1 k (without_entries d) low (omega (arith, high, size)))
