-- What is kept of a day and its lines, and which lines it stands for.
use Rattle.std.specs.Prelude.{ℕ, ◌≡◌, ◌+◌, ◌^◌, ◌-◌, ◌≤◌, min, List, Option, None, Some, if◌then◌else◌, length, map, count_by, nat_le}
use Rattle.std.specs.Option.{option_or}
use Rattle.batch_records.specs.DayRecord.{Day}
use Rattle.commit_journal.specs.declared.line.Head.{Head}
use Rattle.commit_journal.specs.Line.{History}
use Rattle.machine.specs.Words.{when}
use Rattle.machine.specs.Records.Messages.{message_numbers}
use Rattle.machine.specs.Telling.History.{clock, ended, is_end, is_time}
use Rattle.machine.specs.Telling.Facts.{round}
use Rattle.machine.specs.Legal.{IsLegal}
use Rattle.day_facts.specs.declared.stages.Stage.{Stage}
use Rattle.day_facts.specs.Cycles.{all_cycles, cycles_with}
pub use Rattle.day_facts.specs.FactsRecord.{Facts, FactsRoom}
use Rattle.day_facts.specs.Left.{debits_after, debits_rows, kept_after, kept_rows, last_after, last_debits, waiting_after, waiting_rows}
use Rattle.day_facts.specs.Lists.{changed}
use Rattle.day_facts.specs.Objectors.{fresh}
use Rattle.day_facts.specs.Openings.{openings_after, openings_of}
use Rattle.day_facts.specs.Phasing.{stage_by}
use Rattle.day_facts.specs.Untaken.{first_untaken, next_after}
use Rattle.day_facts.specs.Own.{booked_rows, noted, owns_of, row_noted}
use Rattle.day_facts.specs.Told.{revoked_after, revoked_rows, told_with, tolds_of}

-- ---- over a history

-- with these stages, and the cycles of so many systems
abbrev pub facts_of : Day → History → List Stage → ℕ → FactsRoom → Facts
facts_of day J stages systems room = record {
  own = owns_of day J;
  told = tolds_of day J;
  booked = booked_rows day J;
  revoked = revoked_rows day J;
  debits = debits_rows day J;
  waiting = waiting_rows day J;
  kept = kept_rows day J;
  last = last_debits day J;
  stages = stages;
  cycles = all_cycles day systems J;
  openings = openings_of J;
  next = first_untaken day J;
  clock = clock J;
  round = round day J;
  ended = ended J;
  lines = length J;
  room = room;
}

-- the lines are legal for the day, and what is kept is what they tell, whatever room there is, with cycles of the day's systems at least;
-- the stages are those by all else that is kept
pub record StandsFor (day : Day) (J : History) (facts : Facts) : Type 0 where
  pub legal : IsLegal day J
  pub exact : facts ≡ facts_of day J facts.stages (length facts.cycles) facts.room
  pub systems : length day.systems ≤ length facts.cycles
  pub staged : facts.stages ≡ map (stage_by day facts) (message_numbers day)

-- in each table there is as much room, and no less for items that are revoked than for those that are booked
pub record AreAlike (own told last stages booked revoked flags booked_items revoked_items flag_items : ℕ) : Type 0 where
  pub is_told : told ≡ own
  pub is_last : last ≡ own
  pub is_stages : stages ≡ own
  pub is_booked : booked ≡ own
  pub is_revoked : revoked ≡ own
  pub is_flags : flags ≡ own
  pub has_revoked : booked_items ≤ revoked_items
  pub has_flags : flag_items ≡ booked_items

-- ---- after one more line

-- its place; no day has so many lines that the greatest number is reached
abbrev pub next_place : Facts → ℕ
next_place facts = min (facts.lines + 1) (2 ^ 32 - 1)

abbrev pub round_at : Day → ℕ → ℕ
round_at day time = count_by (λ stop. nat_le stop time) day.stops

-- the line accepts a message on the batch `aim`, where there is one, which repeats the objection `earlier`, where there is one; all but the
-- stages
abbrev pub with_tables_at : Day → Head → Option ℕ → Option ℕ → ℕ → Facts → Facts
with_tables_at day head aim earlier place facts = record {
  own = changed head.msg (noted place head) facts.own;
  told = told_with day aim place head facts.told;
  booked = changed head.msg (row_noted place head) facts.booked;
  revoked = revoked_after day (fresh aim earlier) place head facts.revoked;
  debits = debits_after head facts.debits;
  waiting = waiting_after day (fresh aim earlier) head facts.waiting;
  kept = kept_after day (fresh aim earlier) head facts.kept;
  last = last_after place head facts.debits facts.last;
  stages = facts.stages;
  cycles = cycles_with day place head facts.cycles;
  openings = openings_after place head facts.openings;
  next = next_after day (changed head.msg (noted place head) facts.own) facts.next;
  clock = if is_time head.kind then head.entry else facts.clock;
  round = if is_time head.kind then round_at day head.entry else facts.round;
  ended = option_or facts.ended (when (is_end head.kind) place);
  lines = place;
  room = facts.room;
}

abbrev pub with_tables : Day → Head → Option ℕ → Option ℕ → Facts → Facts
with_tables day head aim earlier facts = with_tables_at day head aim earlier (next_place facts) facts

-- message n has the stage by all else that is kept
abbrev pub with_stage : Day → ℕ → Facts → Facts
with_stage day n facts = record facts { stages = changed n (λ stage. stage_by day facts n) facts.stages }

abbrev pub with_stage_of : Day → Option ℕ → Facts → Facts
with_stage_of day None facts = facts
with_stage_of day (Some n) facts = with_stage day n facts

-- of the line's own message, and of the batch that it names, the stages are renewed
abbrev pub with_line : Day → Head → Option ℕ → Option ℕ → Facts → Facts
with_line day head aim earlier facts = with_stage_of day aim (with_stage day head.msg (with_tables day head aim earlier facts))
