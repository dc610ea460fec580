use Rattle.std.proofs.Common.{◌≡◌, ◌∙◌, ◌+◌, ◌-◌, ◌++◌, ◌∷◌, [], ℕ, Option, suc, ap, arith, length}
use Rattle.machine.specs.Records.Messages.{entries}
use Rattle.day_facts.specs.declared.own.Own.{Own}
use Rattle.day_facts.specs.declared.stages.Stage.{Stage}
use Rattle.day_facts.specs.declared.told.Told.{Told}
use Rattle.day_facts.specs.declared.watched.Watched.TheVariants as watches
use Rattle.day_facts.specs.Arrivals.{with_row}
use Rattle.day_facts.specs.Facts.{Facts}
use Rattle.day_facts.specs.FlagTables.{FlagTables}
use Rattle.day_facts.specs.Left.{watched_row}
use Rattle.day_facts.specs.Listed.{Listed, Rowed}
use Rattle.day_facts.specs.Lists.{no_places}
use Rattle.day_facts.proofs.ItemCounts.{few_places}
use Rattle.day_facts.proofs.LeftLines.{debits_first, kept_first, no_last, waiting_first}
use Rattle.day_facts.proofs.OwnLines.{booked_first}
use Rattle.day_facts.proofs.TableFacts.{row_size}
use Rattle.day_facts.proofs.ToldLines.{revoked_first}
use Rattle.day_facts.proofs.facts.DayFacts.take.Goals as goal

pub invariant_of-self : goal.invariant_of-self
invariant_of-self c =
    let n = c.args.n in
    let day = c.args.setting.now.day in
    let inside = c.self.inside in
    let old = c.self.invariant in
    let own : c.arrive.new.self.room ≡ inside.own.room - 1 = ap (λ (t : Listed Own). t.room) (c.arrive.ensures n) in
    let told : c.arrive-2.new.self.room ≡ inside.told.room - 1 = ap (λ (t : Listed Told). t.room) (c.arrive-2.ensures n) in
    let last : c.arrive-7.new.self.room ≡ inside.last.room - 1 = ap (λ (t : Listed ℕ). t.room) c.arrive-7.ensures in
    let stages : c.arrive-8.new.self.room ≡ inside.stages.room - 1 = ap (λ (t : Listed Stage). t.room) c.arrive-8.ensures in
    let booked : c.arrive-3.new.self.room_for_rows ≡ inside.booked.room_for_rows - 1 = ap (λ (r : Rowed (Option ℕ)). r.room_for_rows) c.arrive-3.ensures in
    let revoked : c.arrive-4.new.self.room_for_rows ≡ inside.revoked.room_for_rows - 1 = ap (λ (r : Rowed (Option ℕ)). r.room_for_rows) c.arrive-4.ensures in
    let flags : c.arrive-5.new.self.room_for_rows ≡ inside.flags.room_for_rows - 1 = ap (λ (f : FlagTables). f.room_for_rows) c.arrive-5.ensures in
    let booked_items : c.arrive-3.new.self.room_for_items ≡ inside.booked.room_for_items - length (no_places (c.entry_count.result + 1)) = ap (λ (r : Rowed (Option ℕ)). r.room_for_items) c.arrive-3.ensures in
    let revoked_items : c.arrive-4.new.self.room_for_items ≡ inside.revoked.room_for_items - length (no_places c.parts.result) = ap (λ (r : Rowed (Option ℕ)). r.room_for_items) c.arrive-4.ensures in
    let flag_items : c.arrive-5.new.self.room_for_items ≡ inside.flags.room_for_items - length (watched_row watches.Debits day n) = ap (λ (f : FlagTables). f.room_for_items) c.arrive-5.ensures in
    let places = few_places (c.entry_count.result + 1) in
    let parts = few_places c.parts.result in
    let row = row_size watches.Debits day n in
    record {
      is_told = omega (arith, told, own, old.is_told);
      is_last = omega (arith, last, own, old.is_last);
      is_stages = omega (arith, stages, own, old.is_stages);
      is_booked = omega (arith, booked, own, old.is_booked);
      is_revoked = omega (arith, revoked, own, old.is_revoked);
      is_flags = omega (arith, flags, own, old.is_flags);
      has_revoked = omega (arith, booked_items, revoked_items, places, parts, old.has_revoked, c.entry_count.ensures.count, c.parts.ensures.few);
      has_flags = omega (arith, booked_items, flag_items, places, row, old.has_flags, c.entry_count.ensures.count);
    }

pub returns : goal.returns
returns c =
    let day = c.args.setting.now.day in
    let n = c.args.n in
    let inside = c.self.inside in
    let size : length (no_places (c.entry_count.result + 1)) ≡ c.entry_count.result + 1 = few_places (c.entry_count.result + 1) in
    let items : inside.booked.room_for_items - length (no_places (c.entry_count.result + 1)) ≡ inside.booked.room_for_items - suc (length (entries day n)) = omega (arith, size, c.entry_count.ensures.count) in
    (λ i. record {
      own = ap (λ (t : Listed Own). t.items) (c.arrive.ensures n) i;
      told = ap (λ (t : Listed Told). t.items) (c.arrive-2.ensures n) i;
      booked = (ap (λ (r : Rowed (Option ℕ)). r.rows) c.arrive-3.ensures ∙ ap (λ row. inside.booked.rows ++ row ∷ []) (booked_first day n (c.entry_count.result + 1) (omega (arith, c.entry_count.ensures.count)))) i;
      revoked = (ap (λ (r : Rowed (Option ℕ)). r.rows) c.arrive-4.ensures ∙ ap (λ row. inside.revoked.rows ++ row ∷ []) (revoked_first day n _ c.parts.ensures.count)) i;
      debits = (ap (λ (f : FlagTables). f.debits) c.arrive-5.ensures ∙ ap (λ row. inside.flags.debits ++ row ∷ []) (debits_first day n)) i;
      waiting = (ap (λ (f : FlagTables). f.waiting) c.arrive-5.ensures ∙ ap (λ row. inside.flags.waiting ++ row ∷ []) (waiting_first day n)) i;
      kept = (ap (λ (f : FlagTables). f.kept) c.arrive-5.ensures ∙ ap (λ row. inside.flags.kept ++ row ∷ []) (kept_first day n)) i;
      last = (ap (λ (t : Listed ℕ). t.items) c.arrive-7.ensures ∙ ap (λ x. inside.last.items ++ x ∷ []) (no_last day n)) i;
      stages = ap (λ (t : Listed Stage). t.items) c.arrive-8.ensures i;
      cycles = inside.cycles;
      openings = inside.openings;
      next = inside.next;
      clock = inside.clock;
      round = inside.round;
      ended = inside.ended;
      lines = inside.lines;
      room = record {
        messages = ap (λ (t : Listed Own). t.room) (c.arrive.ensures n) i;
        items = (ap (λ (r : Rowed (Option ℕ)). r.room_for_items) c.arrive-3.ensures ∙ items) i;
      };
    })
    ∙ ap (λ (f : Facts). with_row day n f) c.self.view_is
