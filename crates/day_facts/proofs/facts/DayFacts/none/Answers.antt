use Rattle.std.proofs.Common.{ℕ, Option, ap}
use Rattle.day_facts.specs.declared.own.Own.{Own}
use Rattle.day_facts.specs.declared.stages.Stage.{Stage}
use Rattle.day_facts.specs.declared.told.Told.{Told}
use Rattle.day_facts.specs.FlagTables.{FlagTables}
use Rattle.day_facts.specs.Listed.{Listed, Rowed}
use Rattle.day_facts.proofs.Standing.{no_clock, no_end}
use Rattle.day_facts.proofs.facts.DayFacts.none.Goals as goal

pub returns-clause-rows : goal.returns-clause-rows
returns-clause-rows c = λ day.
    λ i. record {
      own = ap (λ (t : Listed Own). t.items) c.in_ok-own.ensures i;
      told = ap (λ (t : Listed Told). t.items) c.in_ok-told.ensures i;
      booked = ap (λ (r : Rowed (Option ℕ)). r.rows) c.in_ok-booked.ensures i;
      revoked = ap (λ (r : Rowed (Option ℕ)). r.rows) c.in_ok-revoked.ensures i;
      debits = ap (λ (f : FlagTables). f.debits) c.in_ok-flags.ensures i;
      waiting = ap (λ (f : FlagTables). f.waiting) c.in_ok-flags.ensures i;
      kept = ap (λ (f : FlagTables). f.kept) c.in_ok-flags.ensures i;
      last = ap (λ (t : Listed ℕ). t.items) c.in_ok-last.ensures i;
      stages = ap (λ (t : Listed Stage). t.items) c.in_ok-stages.ensures i;
      cycles = c.in_ok-cycles.ensures day i;
      openings = c.in_ok-openings.ensures i;
      next = 1;
      clock = no_clock i;
      round = c.args.round;
      ended = no_end i;
      lines = 0;
      room = record {
        messages = ap (λ (t : Listed Own). t.room) c.in_ok-own.ensures i;
        items = ap (λ (r : Rowed (Option ℕ)). r.room_for_items) c.in_ok-booked.ensures i;
      };
    }

pub returns-clause-room : goal.returns-clause-room
returns-clause-room c =
    λ i. record {
      messages = ap (λ (t : Listed Own). t.room) c.in_ok-own.ensures i;
      items = ap (λ (r : Rowed (Option ℕ)). r.room_for_items) c.in_ok-booked.ensures i;
    }
