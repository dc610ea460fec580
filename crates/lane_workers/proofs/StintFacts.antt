-- Stints of messages: how the next one is made, and where each stands among them all.
use Rattle.std.proofs.Common.{◌≡◌, ℕ, zero, suc, ◌+◌, ◌-◌, ◌*◌, ◌/◌, ◌%◌, ◌<◌, ◌≤◌, true, false, List, [], ◌∷◌, ◌++◌, length, get_or, take, drop, map, refl, ap, ◌∙◌, sym, arith, append_assoc, append-nil, length-append, add-one, mul_comm}
use Rattle.std.specs.Prelude.{filter, nat_eq, slice_index, ◌&&◌}
use Rattle.std.specs.List.{range_with_len}
use Rattle.std.proofs.lemmas.Bool.{and_from, and_left, eq-eqb, eqb-true, ne_eqb}
use Rattle.std.proofs.lemmas.List.{drop_at, take_at}
use Rattle.std.proofs.lemmas.List.FromFn.{get_or-map-range_with_len, length-map-range_with_len, map-range_with_len_more}
use Rattle.std.proofs.lemmas.Nat.{div-mul-add, mod-mul-add, mul-add-lt}
use Rattle.batch_records.specs.DayRecord.{Day}
use Rattle.batch_records.specs.Sound.{is_sound}
use Rattle.machine.specs.Records.Messages.{message_numbers, round_of}
use Rattle.lane_workers.specs.declared.lanes.Stints.{Stints}
use Rattle.lane_workers.specs.Stints.{HasStints, first_of, is_idle, is_of, stint, stint_count, stints_before}
use Rattle.lane_workers.specs.Senders.{lane_of}
use Rattle.lane_workers.proofs.Ranges.{middle_passes, stands_in}
use Rattle.lane_workers.proofs.RoundFacts.{before_first, firsts_rise, from_first, is_first}

-- a stint has the messages from the round's first on and before the next round's first whose lane is this one
pub stint_is : (day : Day) (workers round lane : ℕ) (lanes : List ℕ) → is_sound day ≡ true → lanes ≡ map (lane_of day workers) (message_numbers day)
    → stint day workers round lane ≡ filter (λ n. nat_eq (slice_index lanes (n - 1)) lane) (range_with_len (first_of day round) (first_of day (round + 1) - first_of day round))
stint_is day workers round lane lanes sound is =
    ap (λ (n : ℕ). filter (is_of day workers round lane) (range_with_len 1 n)) whole
    ∙ middle_passes (is_of day workers round lane) (λ n. nat_eq (slice_index lanes (n - 1)) lane) 1 (f - 1) (g - f) (length day.messages + 1 - g) before within after
    ∙ ap (λ (n : ℕ). filter (λ n. nat_eq (slice_index lanes (n - 1)) lane) (range_with_len n (g - f))) start
  where
    f : ℕ
    f = first_of day round

    g : ℕ
    g = first_of day (round + 1)

    low : 1 ≤ f
    low = (is_first day round).low

    rise : f ≤ g
    rise = firsts_rise day round (round + 1) sound (omega arith)

    high : g ≤ 1 + length day.messages
    high = (is_first day (round + 1)).high

    whole : length day.messages ≡ (f - 1) + (g - f) + (length day.messages + 1 - g)
    whole = omega (arith, low, rise, high)

    start : 1 + (f - 1) ≡ f
    start = omega (arith, low)

    before : (k : ℕ) → 1 ≤ k → k < 1 + (f - 1) → is_of day workers round lane k ≡ false
    before k from less =
        let l : round_of day k < round = before_first day round k (omega (arith, from)) (omega (arith, less, start)) in
        and_left (nat_eq (round_of day k) round) _ (ne_eqb (round_of day k) round (λ e. omega (arith, e, l)))

    after : (k : ℕ) → 1 + (f - 1) + (g - f) ≤ k → k < 1 + (f - 1) + (g - f) + (length day.messages + 1 - g) → is_of day workers round lane k ≡ false
    after k from less =
        let l : round + 1 ≤ round_of day k = from_first day (round + 1) k sound (omega (arith, from, low, rise)) (omega (arith, less, low, rise, high)) in
        and_left (nat_eq (round_of day k) round) _ (ne_eqb (round_of day k) round (λ e. omega (arith, e, l)))

    within : (k : ℕ) → 1 + (f - 1) ≤ k → k < 1 + (f - 1) + (g - f) → is_of day workers round lane k ≡ nat_eq (slice_index lanes (k - 1)) lane
    within k from less =
        let not_before : round ≤ round_of day k = from_first day round k sound (omega (arith, from, low)) (omega (arith, less, low, rise, high)) in
        let not_after : round_of day k < round + 1 = before_first day (round + 1) k (omega (arith, from, low)) (omega (arith, less, low, rise)) in
        let own : nat_eq (round_of day k) round ≡ true = eq-eqb (round_of day k) round (omega (arith, not_before, not_after)) in
        let at : get_or lanes (k - 1) 0 ≡ lane_of day workers k =
        ap (λ (xs : List ℕ). get_or xs (k - 1) 0) is ∙ get_or-map-range_with_len (lane_of day workers) 1 (length day.messages) (k - 1) k 0 (omega (arith, less, low, rise, high, from)) (omega (arith, from, low)) in
        ap (λ b. b && nat_eq (lane_of day workers k) lane) own ∙ ap (λ (n : ℕ). nat_eq n lane) (sym at)

-- ---- one stint more

stints_more : (day : Day) (workers round lane : ℕ) → lane < workers → stints_before day workers (round * workers + lane + 1) ≡ stints_before day workers (round * workers + lane) ++ stint day workers round lane
unfolding stints_before
stints_more day workers round lane less =
    ap (stints_before day workers) (add-one (round * workers + lane))
    ∙ (λ j. stints_before day workers (round * workers + lane) ++ stint day workers (div-mul-add round workers lane less j) (mod-mul-add round workers lane less j))

pub has_more : (day : Day) (workers round lane : ℕ) (old new : Stints) → lane < workers → HasStints day workers (round * workers + lane) old
    → new.order.items ≡ old.order.items ++ stint day workers round lane → new.begins.items ≡ old.begins.items ++ length new.order.items ∷ []
    → HasStints day workers (round * workers + lane + 1) new
has_more day workers round lane old new less h order begins =
    let k : ℕ = round * workers + lane in
    let is : new.order.items ≡ stints_before day workers (k + 1) = order ∙ ap (λ (xs : List ℕ). xs ++ stint day workers round lane) h.order ∙ sym (stints_more day workers round lane less) in
    record {
      order = is;
      begins = begins
          ∙ (λ j. h.begins j ++ length (is j) ∷ [])
          ∙ sym (map-range_with_len_more (λ i. length (stints_before day workers i)) 0 (k + 1) (k + 1) (omega arith));
    }

pub has_none : (day : Day) (workers : ℕ) (stints : Stints) → stints.order.items ≡ [] → stints.begins.items ≡ 0 ∷ [] → HasStints day workers 0 stints
unfolding stints_before
has_none day workers stints order begins = record { order = order; begins = begins }

-- ---- one stint of them all

rest_of : (day : Day) (workers k m : ℕ) → (rest : List ℕ) × (stints_before day workers (k + m) ≡ stints_before day workers k ++ rest)
unfolding stints_before
rest_of day workers k zero = let e : k + 0 ≡ k = omega arith in ([], ap (stints_before day workers) e ∙ sym (append-nil (stints_before day workers k)))
rest_of day workers k (suc m) =
    let e : k + suc m ≡ suc (k + m) = omega arith in
    let r = rest_of day workers k m in
    let more : List ℕ = stint day workers ((k + m) / workers) ((k + m) % workers) in
    (r.0 ++ more, ap (stints_before day workers) e ∙ ap (λ (xs : List ℕ). xs ++ more) r.1 ∙ append_assoc (stints_before day workers k) r.0 more)

pub begin_at : (day : Day) (workers count : ℕ) (stints : Stints) (i : ℕ) → HasStints day workers count stints → i ≤ count → get_or stints.begins.items i 0 ≡ length (stints_before day workers i)
begin_at day workers count stints i h le =
    ap (λ (xs : List ℕ). get_or xs i 0) h.begins ∙ get_or-map-range_with_len (λ i. length (stints_before day workers i)) 0 (count + 1) i i 0 (omega (arith, le)) (omega arith)

pub begin_count : (day : Day) (workers count : ℕ) (stints : Stints) → HasStints day workers count stints → length stints.begins.items ≡ count + 1
begin_count day workers count stints h = ap length h.begins ∙ length-map-range_with_len (λ i. length (stints_before day workers i)) 0 (count + 1)

pub place_within : (day : Day) (workers round lane : ℕ) → round ≤ length day.stops → lane < workers → round * workers + lane + 1 ≤ stint_count day workers
place_within day workers round lane le less =
    let h = mul-add-lt round workers lane (length day.stops + 1) (omega (arith, le)) less in
    let e : workers * (length day.stops + 1) ≡ (length day.stops + 1) * workers = mul_comm workers (length day.stops + 1) in
    omega (arith, h, e)

pub end_within : (day : Day) (workers round end : ℕ) → round ≤ length day.stops → end ≤ workers → 0 < workers → round * workers + end ≤ stint_count day workers
end_within day workers round end le high some = let h = place_within day workers round (workers - 1) le (omega (arith, some)) in omega (arith, h, high, some)

-- it begins and ends there, and is that part of the order
pub record IsStintAt (day : Day) (workers round lane : ℕ) (stints : Stints) (begin end : ℕ) : Type 0 where
  pub rises : begin ≤ end
  pub within : end ≤ length stints.order.items
  pub part : take (end - begin) (drop begin stints.order.items) ≡ stint day workers round lane

pub stint_at : (day : Day) (workers count round lane : ℕ) (stints : Stints) (begin end : ℕ) → HasStints day workers count stints → lane < workers → round * workers + lane + 1 ≤ count
    → begin ≡ get_or stints.begins.items (round * workers + lane) 0 → end ≡ get_or stints.begins.items (round * workers + lane + 1) 0
    → IsStintAt day workers round lane stints begin end
stint_at day workers count round lane stints begin end h less le b e =
    let k : ℕ = round * workers + lane in
    let own : List ℕ = stint day workers round lane in
    let front : List ℕ = stints_before day workers k in
    let begins : begin ≡ length front = b ∙ begin_at day workers count stints k h (omega (arith, le)) in
    let ends : end ≡ length (front ++ own) = e ∙ begin_at day workers count stints (k + 1) h le ∙ ap length (stints_more day workers round lane less) in
    let r = rest_of day workers (k + 1) (count - (k + 1)) in
    let all : k + 1 + (count - (k + 1)) ≡ count = omega (arith, le) in
    let order : stints.order.items ≡ front ++ (own ++ r.0) =
    h.order ∙ ap (stints_before day workers) (sym all) ∙ r.1 ∙ ap (λ (xs : List ℕ). xs ++ r.0) (stints_more day workers round lane less) ∙ append_assoc front own r.0 in
    let sizes = length-append front own in
    let whole = ap length order ∙ length-append front (own ++ r.0) in
    let behind = length-append own r.0 in
    let size : end - begin ≡ length own = omega (arith, begins, ends, sizes) in
    record {
      rises = omega (arith, begins, ends, sizes);
      within = omega (arith, ends, sizes, whole, behind);
      part = (λ j. take (size j) (drop (begins j) (order j))) ∙ ap (take (length own)) (drop_at front (own ++ r.0) (length front) refl) ∙ take_at own r.0 (length own) refl;
    }

-- ---- lanes without a message

before_rises : (day : Day) (workers i j : ℕ) → i ≤ j → length (stints_before day workers i) ≤ length (stints_before day workers j)
before_rises day workers i j le =
    let r = rest_of day workers i (j - i) in
    let e : i + (j - i) ≡ j = omega (arith, le) in
    let whole = ap (λ (k : ℕ). length (stints_before day workers k)) (sym e) ∙ ap length r.1 ∙ length-append (stints_before day workers i) r.0 in
    omega (arith, whole)

pub none_of_idle : (day : Day) (workers round from end n : ℕ) → is_idle day workers round from end ≡ true → 0 < n → n ≤ length day.messages → round_of day n ≡ round
    → from ≤ lane_of day workers n → lane_of day workers n < end → end ≤ workers → ⊥
none_of_idle day workers round from end n idle low high of above below within =
    let lane : ℕ = lane_of day workers n in
    let k : ℕ = round * workers + lane in
    let is : is_of day workers round lane n ≡ true = and_from _ _ (eq-eqb (round_of day n) round of) (eq-eqb lane lane refl) in
    let j = stands_in (is_of day workers round lane) 1 (length day.messages) n (omega (arith, low)) (omega (arith, high)) is in
    let some = j.1 in
    let same = eqb-true (length (stints_before day workers (round * workers + from))) (length (stints_before day workers (round * workers + end))) idle in
    let sizes = ap length (stints_more day workers round lane (omega (arith, below, within))) ∙ length-append (stints_before day workers k) (stint day workers round lane) in
    let first = before_rises day workers (round * workers + from) k (omega (arith, above)) in
    let last = before_rises day workers (k + 1) (round * workers + end) (omega (arith, below)) in
    omega (arith, some, same, sizes, first, last)
