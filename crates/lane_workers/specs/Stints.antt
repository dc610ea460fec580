-- The messages of a day by round and lane.
use Rattle.std.specs.Prelude.{◌≡◌, ℕ, zero, suc, ◌+◌, ◌*◌, ◌/◌, ◌%◌, ◌<◌, ◌≤◌, Bool, true, ◌&&◌, List, [], ◌++◌, filter, length, map, nat_eq, nat_le, unwrap_or}
use Rattle.std.specs.List.{find, range_with_len}
use Rattle.batch_records.specs.DayRecord.{Day}
use Rattle.batch_records.specs.Sound.{is_sound}
use Rattle.machine.specs.Records.Messages.{message_numbers, round_of}
use Rattle.lane_workers.specs.declared.lanes.Lanes.{Lanes}
use Rattle.lane_workers.specs.declared.lanes.Stints.{Stints}
use Rattle.lane_workers.specs.Senders.{lane_of}

-- message n is of this round and lane
abbrev pub is_of : Day → ℕ → ℕ → ℕ → ℕ → Bool
is_of day workers round lane n = nat_eq (round_of day n) round && nat_eq (lane_of day workers n) lane

-- the messages of a round and lane, in file order
abbrev pub stint : Day → ℕ → ℕ → ℕ → List ℕ
stint day workers round lane = filter (is_of day workers round lane) (message_numbers day)

-- Rounds count from 0, and the last is that of the messages after all stops.
abbrev pub round_count : Day → ℕ
round_count day = length day.stops + 1

-- the stints of all rounds, by round and then by lane: stint i is that of round i / workers and lane i % workers
abbrev pub stint_count : Day → ℕ → ℕ
stint_count day workers = round_count day * workers

-- the first i stints, one after the other
unfoldable pub stints_before : Day → ℕ → ℕ → List ℕ
stints_before day workers zero = []
stints_before day workers (suc i) = stints_before day workers i ++ stint day workers (i / workers) (i % workers)

-- No message of the round is of these lanes, from the first on and below the end: after their stints stand as many messages as before them.
abbrev pub is_idle : Day → ℕ → ℕ → ℕ → ℕ → Bool
is_idle day workers round from end =
    nat_eq (length (stints_before day workers (round * workers + from))) (length (stints_before day workers (round * workers + end)))

-- the first message of this round or of a later one; one more than there are messages, where there is none
abbrev pub first_of : Day → ℕ → ℕ
first_of day round = unwrap_or (find (λ n. nat_le round (round_of day n)) (message_numbers day)) (suc (length day.messages))

-- the first stints, so many, and where each begins, with the end of the last
pub record HasStints (day : Day) (workers count : ℕ) (stints : Stints) : Type 0 where
  pub order : stints.order.items ≡ stints_before day workers count
  pub begins : stints.begins.items ≡ map (λ i. length (stints_before day workers i)) (range_with_len 0 (count + 1))

-- all stints of the day, which is sound, for 1 to 8 workers, and the first message of each round
pub record AreLanesOf (day : Day) (lanes : Lanes) : Type 0 where
  pub sound : is_sound day ≡ true
  pub some : 0 < lanes.workers
  pub few : lanes.workers ≤ 8
  pub stints : HasStints day lanes.workers (stint_count day lanes.workers) lanes.stints
  pub firsts : lanes.firsts.items ≡ map (first_of day) (range_with_len 0 (round_count day))
