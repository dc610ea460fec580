-- All that is kept, after one more line.
use Rattle.std.proofs.Common.{◌≡◌, ◌∙◌, ℕ, true, ◌∷◌, arith, length, subst, sym}
use Rattle.batch_records.specs.DayRecord.{Day}
use Rattle.batch_records.specs.Sound.{is_sound}
use Rattle.commit_journal.specs.declared.line.Head.{Head}
use Rattle.commit_journal.specs.Line.{Line, History}
use Rattle.machine.specs.Legal.{IsLegal}
use Rattle.day_facts.specs.Facts.{Facts, StandsFor}
use Rattle.pending_items.specs.Cycles.{AreBatches, with_batch}
use Rattle.pending_items.specs.Items.{HasSameRoom}
use Rattle.pending_items.specs.Kept.{IsRenewed, KeepsPending, KeptItems}
use Rattle.pending_items.specs.Room.{HasRoom}
use Rattle.pending_items.proofs.CycleFacts.{batches_more, batches_with}
use Rattle.pending_items.proofs.LineFacts.{line_fits, line_keeps}

-- with the batch of the line
abbrev pub begun : Day → Head → KeptItems → KeptItems
begun day head v = record v { batches = with_batch day head v.batches }

pub note_keeps : (day : Day) → is_sound day ≡ true → (J : History) (l : Line) (head : Head) → l.head ≡ head → IsLegal day (l ∷ J) → (facts : Facts) → StandsFor day (l ∷ J) facts → (old new : KeptItems) → KeepsPending day J old → IsRenewed day facts head (begun day head old) new → KeepsPending day (l ∷ J) new
note_keeps day sound J l head e legal facts s old new k r = record {
  rows = line_keeps day J l legal old.rows new.rows head old.ends (with_batch day head old.batches) e k.ends (batches_with day J head old.batches k.batches) k.rows (r.rows (l ∷ J) s (line_fits day J l legal old.rows k.rows));
  ends = r.ends J l e legal k.ends;
  batches = r.batches (l ∷ J) s (subst (λ (h : Head). AreBatches day (l ∷ J) (with_batch day h old.batches)) e (batches_more day J l old.batches sound legal k.batches));
}

-- and the room stays
pub note_room : (day : Day) → is_sound day ≡ true → (J : History) (l : Line) (head : Head) → l.head ≡ head → IsLegal day (l ∷ J) → (facts : Facts) → StandsFor day (l ∷ J) facts → (old new : KeptItems) → KeepsPending day J old → IsRenewed day facts head (begun day head old) new →
    (messages more : ℕ) → HasRoom messages more old → HasRoom messages more new
note_room day sound J l head e legal facts s old new k r messages more room =
    let spare : HasSameRoom old.rows new.rows = (r.rows (l ∷ J) s (line_fits day J l legal old.rows k.rows)).spare in
    let rows = spare.messages in
    let items = spare.items in
    let ends = r.room in
    let long : length new.ends ≡ length old.ends = (r.ends J l e legal k.ends).size ∙ sym k.ends.size in
    let size : new.batches.size ≡ old.batches.size = r.blocks (l ∷ J) s in
    let a = room.rows in
    let b = room.items in
    let c = room.ends in
    let d = room.blocks in
    record { rows = omega (arith, a, rows); items = omega (arith, b, items); ends = omega (arith, c, ends); blocks = omega (arith, d, long, size) }
