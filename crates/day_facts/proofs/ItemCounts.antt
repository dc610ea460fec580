-- How many items the messages of a day have.
use Rattle.std.proofs.Common.{◌≡◌, ℕ, zero, suc, ◌+◌, ◌≤◌, ◌<◌, None, List, [], ◌∷◌, length, take, subst, arith}
use Rattle.std.specs.Prelude.{slice_get, sum_by}
use Rattle.std.specs.Option.{option_map_or}
use Rattle.std.proofs.lemmas.List.FromFn.{length-map-range_with_len}
use Rattle.std.proofs.lemmas.List.Sums.{sum_by-cons, sum_by-take-le}
use Rattle.batch_records.specs.DayRecord.{Day}
use Rattle.batch_records.specs.declared.day.Message.{Message}
use Rattle.machine.specs.Records.Messages.{entries, entries_in}
use Rattle.day_facts.specs.Lists.{no_places}

abbrev pub entry_total : List Message → ℕ
entry_total ms = sum_by (λ m. length (entries_in m.body)) ms

pub few_places : (count : ℕ) → length (no_places count) ≡ count
few_places count = length-map-range_with_len (λ k. None) 0 count

-- the entries of the first i messages, and of one more
pub one_more : (ms : List Message) (i : ℕ) → i < length ms → entry_total (take (suc i) ms) ≡ entry_total (take i ms) + length (option_map_or (λ (m : Message). entries_in m.body) (slice_get ms i) [])
one_more [] i l = absurd (omega (arith, l))
one_more (m ∷ ms) zero l = let one = sum_by-cons (λ (x : Message). length (entries_in x.body)) m [] in omega (arith, one)
one_more (m ∷ ms) (suc i) l =
    let more = one_more ms i (omega (arith, l)) in
    let new = sum_by-cons (λ (x : Message). length (entries_in x.body)) m (take (suc i) ms) in
    let old = sum_by-cons (λ (x : Message). length (entries_in x.body)) m (take i ms) in
    omega (arith, more, new, old)

-- ---- room for the items of the messages that are still to come

abbrev pub HasRoomFrom : Day → ℕ → ℕ → Type 0
HasRoomFrom day i room = entry_total day.messages + length day.messages ≤ room + (entry_total (take i day.messages) + i)

pub items_one : (day : Day) (i : ℕ) → i < length day.messages → entry_total (take (i + 1) day.messages) ≡ entry_total (take i day.messages) + length (entries day (i + 1))
items_one day i l =
    let at : suc i ≡ i + 1 = omega arith in
    subst (λ j. entry_total (take j day.messages) ≡ entry_total (take i day.messages) + length (entries day j)) at (one_more day.messages i l)

pub room_here : (day : Day) (i room size : ℕ) → i < length day.messages → HasRoomFrom day i room → size ≤ length (entries day (i + 1)) + 1 → size ≤ room
room_here day i room size l h few =
    let one = items_one day i l in
    let part = sum_by-take-le (λ (m : Message). length (entries_in m.body)) day.messages (i + 1) in
    omega (arith, h, few, one, part, l)
