-- Messages that come in one after another, as the index takes them.
use Rattle.std.proofs.Common.{◌≡◌, ◌∙◌, ℕ, suc, ◌+◌, ◌-◌, ◌<◌, ◌≤◌, List, [], ◌∷◌, ◌++◌, length, map, sym, ap, subst, arith}
use Rattle.std.specs.List.{range_with_len}
use Rattle.std.proofs.lemmas.List.FromFn.{length-map-range_with_len, map-range_with_len_more}
use Rattle.batch_records.specs.DayRecord.{Day}
use Rattle.machine.specs.Records.Messages.{entries}
use Rattle.machine.specs.Stages.Pending.{last_debit_booked}
use Rattle.machine.specs.Telling.Facts.{round}
use Rattle.day_facts.specs.Arrivals.{Arrived, first_rows, first_rows_at, room_after, with_row}
use Rattle.day_facts.specs.declared.stages.Stage.{Stage}
use Rattle.day_facts.specs.declared.stages.Stage.TheVariants as stages
use Rattle.day_facts.specs.Cycles.{cycles_by}
use Rattle.day_facts.specs.Facts.{Facts, FactsRoom, StandsFor, facts_of}
use Rattle.day_facts.specs.Left.{debits_row, kept_row, waiting_row}
use Rattle.day_facts.specs.Own.{booked_row, own_of}
use Rattle.day_facts.specs.Told.{revoked_row, told_of}
use Rattle.day_facts.proofs.ItemCounts.{entry_total, items_one, room_here}
use Rattle.day_facts.proofs.StageLines.{first_stages}
use Rattle.day_facts.proofs.UntakenLines.{no_untaken}

-- ---- a whole day, message by message

one_row : {X : Type 0} (f : ℕ → X) (count : ℕ) → map f (range_with_len 1 (count + 1)) ≡ map f (range_with_len 1 count) ++ f (count + 1) ∷ []
one_row f count = map-range_with_len_more f 1 count (count + 1) (omega arith)

rows_next : (day : Day) (count systems : ℕ) (room : FactsRoom) → with_row day (count + 1) (first_rows day count systems room) ≡ first_rows day (count + 1) systems (room_after day (count + 1) room)
rows_next day count systems room = λ i. record {
  own = sym (one_row (own_of []) count) i;
  told = sym (one_row (told_of day []) count) i;
  booked = sym (one_row (booked_row day []) count) i;
  revoked = sym (one_row (revoked_row day []) count) i;
  debits = sym (one_row (debits_row day []) count) i;
  waiting = sym (one_row (waiting_row day [] []) count) i;
  kept = sym (one_row (kept_row day []) count) i;
  last = sym (one_row (last_debit_booked day []) count) i;
  stages = sym (one_row (λ n. stages.Untaken) count) i;
  cycles = (first_rows day count systems room).cycles;
  openings = (first_rows day count systems room).openings;
  next = 1;
  clock = (first_rows day count systems room).clock;
  round = (first_rows day count systems room).round;
  ended = (first_rows day count systems room).ended;
  lines = 0;
  room = room_after day (count + 1) room;
}

pub none_arrived : (day : Day) (facts : Facts) (most items reached given systems : ℕ) → reached ≡ round day [] → given ≡ most → length day.systems ≤ systems → facts ≡ first_rows_at day 0 reached systems (record { messages = given; items = items }) → Arrived day 0 most items facts
none_arrived day facts most items reached given systems r g all e =
    let size : length facts.cycles ≡ systems = ap (λ (f : Facts). length f.cycles) e ∙ length-map-range_with_len (cycles_by day []) 1 systems in
    let same : facts.room ≡ record { messages = given; items = items } = ap (λ (f : Facts). f.room) e in
    let messages : facts.room.messages ≡ given = ap (λ (x : FactsRoom). x.messages) same in
    let parts : facts.room.items ≡ items = ap (λ (x : FactsRoom). x.items) same in
    record {
      are = e ∙ (λ j. first_rows_at day 0 (r j) (sym size j) (sym same j));
      systems = subst (λ k. length day.systems ≤ k) (sym size) all;
      for_messages = omega (arith, messages, g);
      for_items = omega (arith, parts);
    }

-- there is room for the next one
pub room_for_next : (day : Day) (count most items size : ℕ) (facts : Facts) → count < length day.messages → entry_total day.messages + length day.messages ≤ items → size ≡ length (entries day (count + 1)) + 1 → Arrived day count most items facts → size ≤ facts.room.items
room_for_next day count most items size facts l few e a = room_here day count facts.room.items size l (omega (arith, few, a.for_items)) (omega (arith, e))

pub one_arrived : (day : Day) (count most items : ℕ) (old new : Facts) → count < length day.messages → Arrived day count most items old → new ≡ with_row day (count + 1) old → Arrived day (count + 1) most items new
one_arrived day count most all old new l a e =
    let room : new.room ≡ room_after day (count + 1) old.room = ap (λ (f : Facts). f.room) e in
    let size : length new.cycles ≡ length old.cycles = ap (λ (f : Facts). length f.cycles) e in
    let messages : new.room.messages ≡ old.room.messages - 1 = ap (λ (r : FactsRoom). r.messages) room in
    let items : new.room.items ≡ old.room.items - suc (length (entries day (count + 1))) = ap (λ (r : FactsRoom). r.items) room in
    record {
      are = e ∙ (ap (with_row day (count + 1)) a.are ∙ (rows_next day count (length old.cycles) old.room ∙ (λ j. first_rows day (count + 1) (sym size j) (sym room j))));
      systems = subst (λ k. length day.systems ≤ k) (sym size) a.systems;
      for_messages = omega (arith, messages, a.for_messages, l);
      for_items = (let one = items_one day count l in omega (arith, items, one, a.for_items));
    }

pub all_arrived : (day : Day) (most items : ℕ) (facts : Facts) → Arrived day (length day.messages) most items facts → StandsFor day [] facts
all_arrived day most items facts a = record {
  legal = tt;
  exact = a.are ∙ (whole ∙ (λ j. facts_of day [] (sym kept j) (length facts.cycles) facts.room));
  systems = a.systems;
  staged = kept ∙ first_stages day facts (ap (λ (f : Facts). f.own) a.are);
}
  where
    none : List Stage
    none = map (λ n. stages.Untaken) (range_with_len 1 (length day.messages))

    kept : facts.stages ≡ none
    kept = ap (λ (f : Facts). f.stages) a.are

    whole : first_rows day (length day.messages) (length facts.cycles) facts.room ≡ facts_of day [] none (length facts.cycles) facts.room
    whole = λ i. record {
      own = (facts_of day [] none (length facts.cycles) facts.room).own;
      told = (facts_of day [] none (length facts.cycles) facts.room).told;
      booked = (facts_of day [] none (length facts.cycles) facts.room).booked;
      revoked = (facts_of day [] none (length facts.cycles) facts.room).revoked;
      debits = (facts_of day [] none (length facts.cycles) facts.room).debits;
      waiting = (facts_of day [] none (length facts.cycles) facts.room).waiting;
      kept = (facts_of day [] none (length facts.cycles) facts.room).kept;
      last = (facts_of day [] none (length facts.cycles) facts.room).last;
      stages = none;
      cycles = (facts_of day [] none (length facts.cycles) facts.room).cycles;
      openings = (facts_of day [] none (length facts.cycles) facts.room).openings;
      next = no_untaken day i;
      clock = (facts_of day [] none (length facts.cycles) facts.room).clock;
      round = (facts_of day [] none (length facts.cycles) facts.room).round;
      ended = (facts_of day [] none (length facts.cycles) facts.room).ended;
      lines = 0;
      room = facts.room;
    }
