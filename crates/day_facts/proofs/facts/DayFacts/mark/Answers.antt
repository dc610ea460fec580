use Rattle.std.proofs.Common.{◌≡◌, ℕ, Option, ap, arith}
use Rattle.day_facts.specs.declared.own.Own.{Own}
use Rattle.day_facts.specs.declared.told.Told.{Told}
use Rattle.day_facts.specs.FlagTables.{FlagTables}
use Rattle.day_facts.specs.Listed.{Listed, Rowed}
use Rattle.day_facts.proofs.facts.DayFacts.mark.Goals as goal

-- the room of each table stays
pub invariant_of-self : goal.invariant_of-self
invariant_of-self c =
    let inside = c.self.inside in
    let old = c.self.invariant in
    let own : c.note.new.self.room ≡ inside.own.room = ap (λ (t : Listed Own). t.room) c.note.ensures in
    let told : c.note-2.new.self.room ≡ inside.told.room = ap (λ (t : Listed Told). t.room) c.note-2.ensures in
    let last : c.note-3.new.self.room ≡ inside.last.room = ap (λ (t : Listed ℕ). t.room) c.note-3.ensures in
    let booked : c.note_booked.new.rows.room_for_rows ≡ inside.booked.room_for_rows = ap (λ (r : Rowed (Option ℕ)). r.room_for_rows) c.note_booked.ensures in
    let revoked : c.note_revoked.new.rows.room_for_rows ≡ inside.revoked.room_for_rows = ap (λ (r : Rowed (Option ℕ)). r.room_for_rows) c.note_revoked.ensures in
    let flags : c.note-4.new.self.room_for_rows ≡ inside.flags.room_for_rows = ap (λ (f : FlagTables). f.room_for_rows) c.note-4.ensures in
    let booked_items : c.note_booked.new.rows.room_for_items ≡ inside.booked.room_for_items = ap (λ (r : Rowed (Option ℕ)). r.room_for_items) c.note_booked.ensures in
    let revoked_items : c.note_revoked.new.rows.room_for_items ≡ inside.revoked.room_for_items = ap (λ (r : Rowed (Option ℕ)). r.room_for_items) c.note_revoked.ensures in
    let flag_items : c.note-4.new.self.room_for_items ≡ inside.flags.room_for_items = ap (λ (f : FlagTables). f.room_for_items) c.note-4.ensures in
    record {
      is_told = omega (arith, told, own, old.is_told);
      is_last = omega (arith, last, own, old.is_last);
      is_stages = omega (arith, own, old.is_stages);
      is_booked = omega (arith, booked, own, old.is_booked);
      is_revoked = omega (arith, revoked, own, old.is_revoked);
      is_flags = omega (arith, flags, own, old.is_flags);
      has_revoked = omega (arith, booked_items, revoked_items, old.has_revoked);
      has_flags = omega (arith, booked_items, flag_items, old.has_flags);
    }
