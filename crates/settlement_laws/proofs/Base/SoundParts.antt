-- What a sound day is made of.
use Rattle.std.proofs.Common.{◌≡◌, ℕ, zero, suc, ◌^◌, ◌<◌, ◌≤◌, true, false, refl, List, [], ◌∷◌, Some, subst, arith}
use Rattle.std.specs.Prelude.{length, slice_get, sum_by, nat_le, nat_lt}
use Rattle.std.specs.List.{list_all}
use Rattle.std.proofs.lemmas.Bool.{leb-true, ltb-true, and_parts}
use Rattle.batch_records.specs.DayRecord.{Day}
use Rattle.batch_records.specs.declared.day.Message.{Message}
use Rattle.batch_records.specs.Sound.{fits_version, is_sound, is_spelled, is_sound_body, stops_rise, rounds_rise}
use Rattle.cash_amounts.specs.SoundSetup.{sound_setup, is_within_limits}
use Rattle.cash_amounts.specs.declared.limits.TheConstants.{MAX_ACCOUNTS, MAX_ENTRIES_OF_DAY, MAX_ENTRIES_OF_DAY_BEFORE_THIRD, MAX_MESSAGES, MAX_MESSAGES_BEFORE_THIRD}
use Rattle.batch_records.specs.Versions.{is_third, most_entries_of_day, most_messages}
use Rattle.batch_records.proofs.VersionFacts.{entries_at_most, messages_at_most}
use Rattle.machine.specs.Orders.Bounds.{entries_of_all, line_limit, line_limit_of, most_lines, most_moves, move_limit, move_limit_of}

pub record SoundParts (day : Day) : Type 0 where
  pub setup : sound_setup day.accounts day.systems ≡ true
  pub stops : stops_rise 0 day.stops ≡ true
  pub rounds : rounds_rise (length day.stops) 0 day.messages ≡ true
  pub bodies : list_all (λ m. is_sound_body m.body) day.messages ≡ true
  pub messages_fit : length day.messages ≤ most_messages day.version
  pub entries_fit : entries_of_all day ≤ most_entries_of_day day.version
  pub few_messages : length day.messages ≤ MAX_MESSAGES
  pub few_entries : entries_of_all day ≤ MAX_ENTRIES_OF_DAY
  pub few_accounts : length day.accounts ≤ MAX_ACCOUNTS

pub sound_parts : (day : Day) → is_sound day ≡ true → SoundParts day
sound_parts day h =
    let i = and_parts _ (fits_version day) h in
    let g = and_parts _ (is_spelled day) i.0 in
    let f = and_parts _ (nat_le (entries_of_all day) (most_entries_of_day day.version)) g.0 in
    let e = and_parts _ (nat_le (length day.messages) (most_messages day.version)) f.0 in
    let d = and_parts _ (list_all (λ m. is_sound_body m.body) day.messages) e.0 in
    let c = and_parts _ (rounds_rise (length day.stops) 0 day.messages) d.0 in
    let b = and_parts (sound_setup day.accounts day.systems) (stops_rise 0 day.stops) c.0 in
    let w = and_parts _ (is_within_limits day.accounts day.systems) b.0 in
    let a = and_parts _ (nat_le (length day.accounts) MAX_ACCOUNTS) (and_parts _ (nat_le (sum_by (λ r. r.opening) day.accounts) (10 ^ 18)) w.1).0 in
    let messages = leb-true _ _ e.1 in
    let entries = leb-true _ _ f.1 in
    record {
      setup = b.0;
      stops = b.1;
      rounds = c.1;
      bodies = d.1;
      messages_fit = messages;
      entries_fit = entries;
      few_messages = omega (arith, messages, messages_at_most day.version);
      few_entries = omega (arith, entries, entries_at_most day.version);
      few_accounts = leb-true _ _ a.1;
    }

-- the bounds of a sound day of its version
pub lines_fit : (day : Day) → is_sound day ≡ true → most_lines day < line_limit_of day.version
lines_fit day h =
    let s = sound_parts day h in
    let a = s.messages_fit in
    let b = s.entries_fit in
    let c = s.few_accounts in
    omega (arith, a, b, c)

pub moves_fit : (day : Day) → is_sound day ≡ true → most_moves day < move_limit_of day.version
moves_fit day h =
    let s = sound_parts day h in
    let a = s.messages_fit in
    let b = s.entries_fit in
    let c = s.few_accounts in
    omega (arith, a, b, c)

-- those of versions 1 and 2 in numbers
pub limits_before_third : (version : ℕ) → is_third version ≡ false → (line_limit_of version ≤ 1500000) × (move_limit_of version ≤ 3000000)
limits_before_third version e =
    let a : most_messages version ≡ MAX_MESSAGES_BEFORE_THIRD = rw e refl in
    let b : most_entries_of_day version ≡ MAX_ENTRIES_OF_DAY_BEFORE_THIRD = rw e refl in
    (omega (arith, a, b), omega (arith, a, b))

-- and of any version
pub line_limits : (version : ℕ) → line_limit_of version ≤ line_limit
line_limits version = let a = messages_at_most version in let b = entries_at_most version in omega (arith, a, b)

pub move_limits : (version : ℕ) → move_limit_of version ≤ move_limit
move_limits version = let a = messages_at_most version in let b = entries_at_most version in omega (arith, a, b)

pub few_lines : (day : Day) → is_sound day ≡ true → most_lines day < line_limit
few_lines day h = let a = lines_fit day h in let b = line_limits day.version in omega (arith, a, b)

pub few_moves : (day : Day) → is_sound day ≡ true → most_moves day < move_limit
few_moves day h = let a = moves_fit day h in let b = move_limits day.version in omega (arith, a, b)

-- each stop is before midnight
pub stop_early : (before : ℕ) (stops : List ℕ) (i t : ℕ) → stops_rise before stops ≡ true → slice_get stops i ≡ Some t → t < 86400
stop_early before [] i t h e = cc
stop_early before (stop ∷ stops) zero t h e =
    let l : stop < 86400 = ltb-true _ _ (and_parts (nat_lt before stop) (nat_lt stop 86400) (and_parts _ (stops_rise stop stops) h).0).1 in
    let same : stop ≡ t = cc in
    omega arith
stop_early before (stop ∷ stops) (suc i) t h e = stop_early stop stops i t (and_parts _ (stops_rise stop stops) h).1 e

-- each round is reached in the end
pub round_within : (last before : ℕ) (ms : List Message) (i : ℕ) (m : Message) → rounds_rise last before ms ≡ true → slice_get ms i ≡ Some m → m.round ≤ last
round_within last before [] i m h e = cc
round_within last before (q ∷ ms) zero m h e =
    let l : q.round ≤ last = leb-true _ _ (and_parts (nat_le before q.round) (nat_le q.round last) (and_parts _ (rounds_rise last q.round ms) h).0).1 in
    let same : q ≡ m = cc in
    subst (λ (x : Message). x.round ≤ last) same l
round_within last before (q ∷ ms) (suc i) m h e = round_within last q.round ms i m (and_parts _ (rounds_rise last q.round ms) h).1 e

-- an earlier message is of no later round
pub round_above : (last before : ℕ) (ms : List Message) (i : ℕ) (m : Message) → rounds_rise last before ms ≡ true → slice_get ms i ≡ Some m → before ≤ m.round
round_above last before [] i m h e = cc
round_above last before (q ∷ ms) zero m h e =
    let l : before ≤ q.round = leb-true _ _ (and_parts (nat_le before q.round) (nat_le q.round last) (and_parts _ (rounds_rise last q.round ms) h).0).0 in
    let same : q ≡ m = cc in
    subst (λ (x : Message). before ≤ x.round) same l
round_above last before (q ∷ ms) (suc i) m h e =
    let p = and_parts _ (rounds_rise last q.round ms) h in
    let l : before ≤ q.round = leb-true _ _ (and_parts (nat_le before q.round) (nat_le q.round last) p.0).0 in
    omega (arith, l, round_above last q.round ms i m p.1 e)

pub rounds_in_order : (last before : ℕ) (ms : List Message) (i j : ℕ) (m n : Message) → rounds_rise last before ms ≡ true → i ≤ j → slice_get ms i ≡ Some m → slice_get ms j ≡ Some n → m.round ≤ n.round
rounds_in_order last before [] i j m n h le e f = cc
rounds_in_order last before (q ∷ ms) zero zero m n h le e f = let same : m ≡ n = cc in subst (λ (x : Message). m.round ≤ x.round) same (omega arith)
rounds_in_order last before (q ∷ ms) zero (suc j) m n h le e f =
    let p = and_parts _ (rounds_rise last q.round ms) h in
    let same : q ≡ m = cc in
    subst (λ (x : Message). x.round ≤ n.round) same (round_above last q.round ms j n p.1 f)
rounds_in_order last before (q ∷ ms) (suc i) zero m n h le e f = absurd (omega arith)
rounds_in_order last before (q ∷ ms) (suc i) (suc j) m n h le e f = rounds_in_order last q.round ms i j m n (and_parts _ (rounds_rise last q.round ms) h).1 (omega arith) e f
