-- The next stop, and that every message is taken before midnight.
use Rattle.std.proofs.Common.{◌≡◌, ℕ, zero, suc, ◌+◌, ◌<◌, ◌≤◌, List, [], ◌∷◌, length, Bool, true, false, ◌&&◌, ◌||◌, not, Option, Some, None, is_some, refl, ap, ◌∙◌, arith, min}
use Rattle.std.specs.Prelude.{if◌then◌else◌, nat_lt, nat_le, count_by, fold, slice_get, unwrap_or}
use Rattle.std.proofs.lemmas.Bool.{cond-true, false≢true, and_parts, le-leb, ltb-true, ltb-false}
use Rattle.std.proofs.lemmas.List.Sums.{sum_by-cons}
use Rattle.batch_records.specs.DayRecord.{Day}
use Rattle.batch_records.specs.declared.day.Message.{Message}
use Rattle.batch_records.specs.Sound.{is_sound}
use Rattle.commit_journal.specs.declared.line.Want.{Want}
use Rattle.commit_journal.specs.declared.line.Want.TheVariants as wants
use Rattle.commit_journal.specs.Line.{History}
use Rattle.std.specs.Option.{option_map_or}
use Rattle.std.proofs.lemmas.Option.{slice_get_within}
use Rattle.machine.specs.Records.Messages.{sort_of_body, Missing, is_message, sort_of, message_numbers, is_batch, info_end, earliest, settlement_end, round_of}
use Rattle.machine.specs.Telling.History.{is_in_of, taken, clock, is_accepted}
use Rattle.machine.specs.Telling.Facts.{round, is_reached}
use Rattle.machine.specs.Making.Lines.{may, made, lesser, lesser_end, next_stop, all_taken, is_ready}
use Rattle.machine.specs.Legal.{IsLegal}
use Rattle.settlement_laws.proofs.Base.Induction.{legal_induction}
use Rattle.settlement_laws.proofs.Base.Sums.{all-at}
use Rattle.settlement_laws.proofs.Base.SoundParts.{sound_parts, stop_early, round_within}
use Rattle.settlement_laws.proofs.Base.LinesOf.{stays}

-- ---- a message by its number

pub record MessageAt (day : Day) (n : ℕ) : Type 0 where
  pub place : ℕ
  pub message : Message
  pub number : n ≡ suc place
  pub there : slice_get day.messages place ≡ Some message
  pub within : place < length day.messages

pub message_is : (day : Day) (n : ℕ) → is_message (sort_of day n) ≡ true → MessageAt day n
message_is day zero h = cc
message_is day (suc i) h = go (slice_get day.messages i) refl h
  where
    go : (o : Option Message) → slice_get day.messages i ≡ o → is_message (option_map_or (λ m. sort_of_body m.body) o Missing) ≡ true → MessageAt day (suc i)
    go None e h = cc
    go (Some m) e h = record { place = i; message = m; number = refl; there = e; within = slice_get_within day.messages i m e }

pub round_is : (day : Day) (n : ℕ) (at : MessageAt day n) → round_of day n ≡ at.message.round
round_is day n at = ap (round_of day) at.number ∙ ap (λ (o : Option Message). option_map_or (λ m. m.round) o 0) at.there

-- ---- the next stop is above the clock, and at most midnight

lesser-bounds : (J : History) (m t : ℕ) → clock J < m → (clock J < lesser J m t) × (lesser J m t ≤ m)
lesser-bounds J m t h = go (nat_lt (clock J) t) refl
  where
    go : (b : Bool) → nat_lt (clock J) t ≡ b → (clock J < (if b then min m t else m)) × ((if b then min m t else m) ≤ m)
    go true e = let l = ltb-true (clock J) t e in (omega (arith, l), omega arith)
    go false e = (h, omega arith)

stops-bounds : (J : History) (m : ℕ) (ts : List ℕ) → clock J < m → (clock J < fold (lesser J) m ts) × (fold (lesser J) m ts ≤ m)
stops-bounds J m [] h = (h, omega arith)
stops-bounds J m (t ∷ ts) h =
    let a = lesser-bounds J m t h in
    let b = stops-bounds J (lesser J m t) ts a.0 in
    (b.0, omega (arith, a.1, b.1))

end-bounds : (day : Day) (J : History) (m n : ℕ) → clock J < m → (clock J < lesser_end day J m n) × (lesser_end day J m n ≤ m)
end-bounds day J m n h = go (is_batch (sort_of day n) && is_accepted J n)
  where
    info : ℕ
    info = unwrap_or (info_end day n) 86400

    early : ℕ
    early = unwrap_or (earliest day n) 86400

    go : (b : Bool) → (clock J < (if b then lesser J (lesser J (lesser J m info) early) (settlement_end day n) else m)) × ((if b then lesser J (lesser J (lesser J m info) early) (settlement_end day n) else m) ≤ m)
    go true =
        let x = lesser-bounds J m info h in
        let y = lesser-bounds J (lesser J m info) early x.0 in
        let z = lesser-bounds J (lesser J (lesser J m info) early) (settlement_end day n) y.0 in
        (z.0, omega (arith, x.1, y.1, z.1))
    go false = (h, omega arith)

ends-bounds : (day : Day) (J : History) (m : ℕ) (ns : List ℕ) → clock J < m → (clock J < fold (lesser_end day J) m ns) × (fold (lesser_end day J) m ns ≤ m)
ends-bounds day J m [] h = (h, omega arith)
ends-bounds day J m (n ∷ ns) h =
    let a = end-bounds day J m n h in
    let b = ends-bounds day J (lesser_end day J m n) ns a.0 in
    (b.0, omega (arith, a.1, b.1))

pub next_stop-bounds : (day : Day) (J : History) → clock J < 86400 → (clock J < next_stop day J) × (next_stop day J ≤ 86400) × (next_stop day J ≤ fold (lesser J) 86400 day.stops)
unfolding next_stop
next_stop-bounds day J h =
    let a = stops-bounds J 86400 day.stops h in
    let b = ends-bounds day J (fold (lesser J) 86400 day.stops) (message_numbers day) a.0 in
    (b.0, omega (arith, a.1, b.1), b.1)

-- ---- the clock never passes midnight

clock_stays : (day : Day) (J : History) (w : Want) → clock J ≤ 86400 → may day J w ≡ true → clock (made day J w ∷ J) ≤ 86400
unfolding clock
clock_stays day J (wants.In n) c h = c
clock_stays day J (wants.Book n k) c h = c
clock_stays day J (wants.All n) c h = c
clock_stays day J wants.Time c h = (next_stop-bounds day J (ltb-true _ _ (and_parts (nat_lt (clock J) 86400) _ (and_parts _ (not (is_ready day J)) h).0).0)).1
clock_stays day J (wants.Expire n) c h = c
clock_stays day J (wants.Ask n) c h = c
clock_stays day J (wants.Cover n) c h = c
clock_stays day J (wants.Refuse n) c h = c
clock_stays day J (wants.Sweep a) c h = c
clock_stays day J wants.End c h = c

pub clock-bound : (day : Day) (J : History) → IsLegal day J → clock J ≤ 86400
unfolding clock
clock-bound day = legal_induction day (λ J. clock J ≤ 86400) (omega arith) (λ J w legal before e h. clock_stays day J w before h)

-- ---- at midnight every message is taken

-- where no stop before midnight is left, the clock has reached each
all_stops : (J : History) (m : ℕ) (ts : List ℕ) → ((i t : ℕ) → slice_get ts i ≡ Some t → t < 86400) → clock J < m → 86400 ≤ fold (lesser J) m ts → count_by (λ t. nat_le t (clock J)) ts ≡ length ts
all_stops J m [] low l h = refl
all_stops J m (t ∷ ts) low l h =
    sum_by-cons (λ u. if nat_le u (clock J) then 1 else 0) t ts ∙ go (low 0 t refl) (λ k. all_stops J k ts (λ i u e. low (suc i) u e)) (nat_lt (clock J) t) refl h
  where
    go : t < 86400 → ((k : ℕ) → clock J < k → 86400 ≤ fold (lesser J) k ts → count_by (λ u. nat_le u (clock J)) ts ≡ length ts) → (b : Bool) → nat_lt (clock J) t ≡ b → 86400 ≤ fold (lesser J) (if b then min m t else m) ts → (if nat_le t (clock J) then 1 else 0) + count_by (λ u. nat_le u (clock J)) ts ≡ suc (length ts)
    go first others true e h =
        let after = ltb-true (clock J) t e in
        let b = stops-bounds J (min m t) ts (omega (arith, after, l)) in
        absurd (omega (arith, b.1, h, first))
    go first others false e h =
        let before = ltb-false (clock J) t e in
        let one : ℕ = 1 in
        let c = cond-true (nat_le t (clock J)) one 0 (le-leb t (clock J) before) in
        omega (arith, c, others m l h)

abbrev pub AllIn : Day → History → Type 0
AllIn day J = 86400 ≤ clock J → (n : ℕ) → is_message (sort_of day n) ≡ true → is_some (taken J n) ≡ true

pub implies : (p q : Bool) → (not p || q) ≡ true → p ≡ true → q ≡ true
implies true q f e = f
implies false q f e = absurd (false≢true e)

reached_at_last : (day : Day) (J : History) (n : ℕ) → is_sound day ≡ true → round day J ≡ length day.stops → is_message (sort_of day n) ≡ true → is_reached day J n ≡ true
reached_at_last day J n sound e m =
    let at = message_is day n m in
    let r : round_of day n ≡ at.message.round = round_is day n at in
    let l : at.message.round ≤ length day.stops = round_within (length day.stops) 0 day.messages at.place at.message (sound_parts day sound).rounds at.there in
    le-leb _ _ (omega (arith, e, r, l))

all_in-step : (day : Day) → is_sound day ≡ true → (J : History) (w : Want) → AllIn day J → may day J w ≡ true → AllIn day (made day J w ∷ J)
unfolding clock all_taken
all_in-step day sound J (wants.In k) before h late n m = stays (is_in_of n) _ J (before late n m)
all_in-step day sound J (wants.Book k i) before h late n m = stays (is_in_of n) _ J (before late n m)
all_in-step day sound J (wants.All k) before h late n m = stays (is_in_of n) _ J (before late n m)
all_in-step day sound J (wants.Expire k) before h late n m = stays (is_in_of n) _ J (before late n m)
all_in-step day sound J (wants.Ask k) before h late n m = stays (is_in_of n) _ J (before late n m)
all_in-step day sound J (wants.Cover k) before h late n m = stays (is_in_of n) _ J (before late n m)
all_in-step day sound J (wants.Refuse k) before h late n m = stays (is_in_of n) _ J (before late n m)
all_in-step day sound J (wants.Sweep a) before h late n m = stays (is_in_of n) _ J (before late n m)
all_in-step day sound J wants.End before h late n m = stays (is_in_of n) _ J (before late n m)
all_in-step day sound J wants.Time before h late n m =
    let a = and_parts _ (not (is_ready day J)) h in
    let b = and_parts (nat_lt (clock J) 86400) (all_taken day J) a.0 in
    let early : clock J < 86400 = ltb-true _ _ b.0 in
    let bounds = next_stop-bounds day J early in
    let stops = all_stops J 86400 day.stops (λ i t e. stop_early 0 day.stops i t (sound_parts day sound).stops e) early (omega (arith, bounds.2, late)) in
    let at = message_is day n m in
    let num : n ≡ suc at.place = at.number in
    let within : at.place < length day.messages = at.within in
    let one = all-at (λ i. not (is_reached day J i) || is_some (taken J i)) 1 (length day.messages) n b.1 (omega (arith, num)) (omega (arith, num, within)) in
    stays (is_in_of n) _ J (implies (is_reached day J n) (is_some (taken J n)) one (reached_at_last day J n sound stops m))

pub all_in : (day : Day) → is_sound day ≡ true → (J : History) → IsLegal day J → AllIn day J
unfolding clock
all_in day sound = legal_induction day (AllIn day) (λ late n m. absurd (omega (arith, late))) (λ J w legal before e h. all_in-step day sound J w before h)
