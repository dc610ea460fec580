-- What messages and stops that come leave as it was.
use Rattle.std.proofs.Common.{◌≡◌, ◌∙◌, ℕ, suc, ◌-◌, ◌<◌, ◌≤◌, List, [], ◌∷◌, ◌++◌, length, map, refl, sym, ap, subst, arith}
use Rattle.std.specs.List.{range_with_len}
use Rattle.std.proofs.lemmas.List.{append_assoc, length_push}
use Rattle.std.proofs.lemmas.List.FromFn.{length-map-range_with_len}
use Rattle.batch_records.specs.DayRecord.{Day}
use Rattle.batch_records.specs.declared.day.Message.{Message}
use Rattle.commit_journal.specs.Line.{History}
use Rattle.machine.specs.Legal.{IsLegal}
use Rattle.machine.specs.Telling.History.{clock}
use Rattle.live_order.specs.Coming.{ComesNext, StaysLegal, setup}
use Rattle.live_order.specs.Longer.{longer}
use Rattle.live_order.proofs.Longer.Known.{entries_same}
use Rattle.day_facts.specs.Arrivals.{first_rows_at, next_number, room_after, with_one, with_row}
use Rattle.day_facts.specs.declared.stages.Stage.TheVariants as stages
use Rattle.day_facts.specs.Cycles.{cycles_by}
use Rattle.day_facts.specs.Facts.{Facts, FactsRoom, StandsFor, facts_of}
use Rattle.day_facts.proofs.LongerFacts.{booked_same, debits_same, facts_kept, facts_longer, kept_same, last_same, revoked_row_same, staged_longer, staged_still, told_same, waiting_same}
use Rattle.day_facts.proofs.UntakenLines.{no_untaken}

-- ---- nothing has come

no_cycles : (day : Day) (i : ℕ) → cycles_by day [] i ≡ cycles_by (setup day) [] i
unfolding cycles_by
no_cycles day i = refl

pub none_stand : (day : Day) (systems : ℕ) (room : FactsRoom) (facts : Facts) → length day.systems ≤ systems → facts ≡ first_rows_at day 0 0 systems room → StandsFor (setup day) [] facts
none_stand day systems room facts all e = record {
  legal = tt;
  exact = e ∙ (whole ∙ (λ j. facts_of (setup day) [] (sym none j) (sym size j) (sym (ap (λ (f : Facts). f.room) e) j)));
  systems = subst (λ k. length day.systems ≤ k) (sym size) all;
  staged = none;
}
  where
    size : length facts.cycles ≡ systems
    size = ap (λ (f : Facts). length f.cycles) e ∙ length-map-range_with_len (cycles_by day []) 1 systems

    none : facts.stages ≡ []
    none = ap (λ (f : Facts). f.stages) e

    whole : first_rows_at day 0 0 systems room ≡ facts_of (setup day) [] [] systems room
    whole = λ j. record {
      own = (facts_of (setup day) [] [] systems room).own;
      told = (facts_of (setup day) [] [] systems room).told;
      booked = (facts_of (setup day) [] [] systems room).booked;
      revoked = (facts_of (setup day) [] [] systems room).revoked;
      debits = (facts_of (setup day) [] [] systems room).debits;
      waiting = (facts_of (setup day) [] [] systems room).waiting;
      kept = (facts_of (setup day) [] [] systems room).kept;
      last = (facts_of (setup day) [] [] systems room).last;
      stages = [];
      cycles = map (λ i. no_cycles day i j) (range_with_len 1 systems);
      openings = (facts_of (setup day) [] [] systems room).openings;
      next = no_untaken (setup day) j;
      clock = (facts_of (setup day) [] [] systems room).clock;
      round = 0;
      ended = (facts_of (setup day) [] [] systems room).ended;
      lines = 0;
      room = room;
    }

-- ---- a message comes, and others may stand behind it

row_same : (day : Day) (ms : List Message) (ss : List ℕ) (n : ℕ) (facts : Facts) → n ≤ length day.messages → with_row (longer day ms ss) n facts ≡ with_row day n facts
row_same day ms ss n facts low = λ j. record {
  own = (with_row day n facts).own;
  told = facts.told ++ told_same day ms ss [] tt n low j ∷ [];
  booked = facts.booked ++ booked_same day ms ss [] tt n low j ∷ [];
  revoked = facts.revoked ++ revoked_row_same day ms ss [] tt n low j ∷ [];
  debits = facts.debits ++ debits_same day ms ss [] tt n low j ∷ [];
  waiting = facts.waiting ++ waiting_same day ms ss [] tt n low j ∷ [];
  kept = facts.kept ++ kept_same day ms ss [] tt n low j ∷ [];
  last = facts.last ++ last_same day ms ss [] tt n low j ∷ [];
  stages = facts.stages ++ stages.Untaken ∷ [];
  cycles = facts.cycles;
  openings = facts.openings;
  next = facts.next;
  clock = facts.clock;
  round = facts.round;
  ended = facts.ended;
  lines = facts.lines;
  room = record { messages = facts.room.messages - 1; items = facts.room.items - suc (length (entries_same day ms ss n low j)) };
}

-- the messages behind the one that comes stand behind the day with it
front : (day : Day) (m : Message) (ms : List Message) (ss : List ℕ) → longer day (m ∷ ms) ss ≡ longer (with_one day m) ms ss
front day m ms ss = λ j. record day {
  messages = sym (append_assoc day.messages (m ∷ []) ms) j;
  stops = sym (append_assoc day.stops [] ss) j;
}

pub message_comes_next : (whole : Day) (n : ℕ) (day : Day) (m : Message) (ms : List Message) (ss : List ℕ) (J : History) (facts new : Facts) → new ≡ with_row whole n facts → ComesNext whole n day m ms ss → StaysLegal day m J
    → StandsFor day J facts → StandsFor (longer day (m ∷ []) []) J new
message_comes_next whole n day m ms ss J facts new e next stays stands = record {
  legal = stays.after;
  exact = made ∙ (λ j. facts_of after J (sym (ap (λ (f : Facts). f.stages) made) j) (sym size j) (sym (ap (λ (f : Facts). f.room) made) j));
  systems = subst (λ k. length day.systems ≤ k) (sym size) stands.systems;
  staged = staged_longer day m J facts new stands with_new;
}
  where
    after : Day
    after = with_one day m

    number : n ≡ next_number day
    number = let e = next.number in omega (arith, e)

    low : next_number day ≤ length after.messages
    low = let e = length_push day.messages m in omega (arith, e)

    size : length new.cycles ≡ length facts.cycles
    size = ap (λ (f : Facts). length f.cycles) e

    with_new : new ≡ with_row after (next_number day) facts
    with_new =
        e
        ∙ (ap (λ d. with_row d n facts) (next.is ∙ front day m ms ss)
        ∙ (ap (λ k. with_row (longer after ms ss) k facts) number
        ∙ row_same after ms ss (next_number day) facts low))

    made : new ≡ facts_of after J (facts.stages ++ stages.Untaken ∷ []) (length facts.cycles) (room_after after (next_number day) facts.room)
    made =
        with_new
        ∙ (ap (with_row after (next_number day)) stands.exact
        ∙ sym (facts_longer day m J stays.before facts.stages (length facts.cycles) facts.room))

-- ---- a stop

pub stop_facts : (day : Day) (t : ℕ) (J : History) (facts : Facts) → clock J < t → IsLegal (longer day [] (t ∷ [])) J → StandsFor day J facts → StandsFor (longer day [] (t ∷ [])) J facts
stop_facts day t J facts late legal stands = record {
  legal = legal;
  exact = stands.exact ∙ sym (facts_kept day t J facts.stages (length facts.cycles) facts.room stands.legal late);
  systems = stands.systems;
  staged = staged_still day t facts stands.staged;
}
