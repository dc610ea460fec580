-- A message that comes in behind a day's messages: what is kept gets a row more for it, as no lines tell of it.
use Rattle.std.specs.Prelude.{ℕ, suc, ◌≡◌, ◌+◌, ◌-◌, ◌≤◌, [], ◌∷◌, ◌++◌, length, map, sum_by, take}
use Rattle.std.specs.List.{range_with_len}
use Rattle.batch_records.specs.DayRecord.{Day}
use Rattle.batch_records.specs.declared.day.Message.{Message}
use Rattle.batch_records.specs.Sound.{entries_in}
use Rattle.machine.specs.Records.Messages.{entries}
use Rattle.machine.specs.Stages.Pending.{last_debit_booked}
use Rattle.machine.specs.Telling.Facts.{round}
use Rattle.machine.specs.Telling.History.{clock, ended}
use Rattle.live_order.specs.Longer.{longer}
use Rattle.day_facts.specs.declared.stages.Stage.TheVariants as stages
use Rattle.day_facts.specs.Cycles.{all_cycles}
use Rattle.day_facts.specs.Facts.{Facts, FactsRoom}
use Rattle.day_facts.specs.Left.{debits_row, kept_row, waiting_row}
use Rattle.day_facts.specs.Openings.{openings_of}
use Rattle.day_facts.specs.Own.{booked_row, own_of}
use Rattle.day_facts.specs.Told.{revoked_row, told_of}

-- the day with one message more, and its number
abbrev pub with_one : Day → Message → Day
with_one day m = longer day (m ∷ []) []

abbrev pub next_number : Day → ℕ
next_number day = suc (length day.messages)

-- the room that message n leaves
abbrev pub room_after : Day → ℕ → FactsRoom → FactsRoom
room_after day n room = record { messages = room.messages - 1; items = room.items - suc (length (entries day n)) }

-- the facts with the rows of message n of the day
abbrev pub with_row : Day → ℕ → Facts → Facts
with_row day n facts = record {
  own = facts.own ++ own_of [] n ∷ [];
  told = facts.told ++ told_of day [] n ∷ [];
  booked = facts.booked ++ booked_row day [] n ∷ [];
  revoked = facts.revoked ++ revoked_row day [] n ∷ [];
  debits = facts.debits ++ debits_row day [] n ∷ [];
  waiting = facts.waiting ++ waiting_row day [] [] n ∷ [];
  kept = facts.kept ++ kept_row day [] n ∷ [];
  last = facts.last ++ last_debit_booked day [] n ∷ [];
  stages = facts.stages ++ stages.Untaken ∷ [];
  cycles = facts.cycles;
  openings = facts.openings;
  next = facts.next;
  clock = facts.clock;
  round = facts.round;
  ended = facts.ended;
  lines = facts.lines;
  room = room_after day n facts.room;
}

-- over no lines, the facts with the rows of the first messages of the day, where so many stops are reached, and the cycles of so many systems
abbrev pub first_rows_at : Day → ℕ → ℕ → ℕ → FactsRoom → Facts
first_rows_at day count reached systems room = record {
  own = map (own_of []) (range_with_len 1 count);
  told = map (told_of day []) (range_with_len 1 count);
  booked = map (booked_row day []) (range_with_len 1 count);
  revoked = map (revoked_row day []) (range_with_len 1 count);
  debits = map (debits_row day []) (range_with_len 1 count);
  waiting = map (waiting_row day [] []) (range_with_len 1 count);
  kept = map (kept_row day []) (range_with_len 1 count);
  last = map (last_debit_booked day []) (range_with_len 1 count);
  stages = map (λ n. stages.Untaken) (range_with_len 1 count);
  cycles = all_cycles day systems [];
  openings = openings_of [];
  next = 1;
  clock = clock [];
  round = reached;
  ended = ended [];
  lines = 0;
  room = room;
}

-- the same with the stops that are reached at the start of the day
abbrev pub first_rows : Day → ℕ → ℕ → FactsRoom → Facts
first_rows day count systems room = first_rows_at day count (round day []) systems room

-- over no lines so many messages of the day have come in, where there was room for so many messages and items in all, and there are cycles of its systems
pub record Arrived (day : Day) (count most items : ℕ) (facts : Facts) : Type 0 where
  pub are : facts ≡ first_rows day count (length facts.cycles) facts.room
  pub systems : length day.systems ≤ length facts.cycles
  pub for_messages : most ≤ facts.room.messages + count
  pub for_items : items ≤ facts.room.items + (sum_by (λ m. length (entries_in m.body)) (take count day.messages) + count)
