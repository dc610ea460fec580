-- What a want leaves of the floor and its teller.
use Rattle.std.proofs.Common.{◌≡◌, ◌+◌, ◌≤◌, ◌∷◌, length, sym, ap, subst, ◌∙◌, arith}
use Rattle.atomic_table.specs.Seated.{TableId}
use Rattle.batch_records.specs.DayRecord.{Day}
use Rattle.commit_journal.specs.Kept.{Kept}
use Rattle.commit_journal.specs.Line.{Line}
use Rattle.commit_journal.specs.Histories.{oldest}
use Rattle.settle_floor.specs.Floors.{IsFor, OnFloor}
use Rattle.journal_pass.specs.Known.{Told, told_lines}
use Rattle.lock_book.specs.CountedFloors.{IsCounted}
use Rattle.lock_book.proofs.Catching.{oldest-over}

-- a teller that had counted all lines has counted all again, once it has counted the one that was pushed
pub counted_again : (old new : OnFloor) (was now : Told) (l : Line) (J : Kept) → was.lines ≡ old.journal.history → new.journal.history ≡ l ∷ old.journal.history → J ≡ new.journal → now ≡ told_lines was (oldest J.history (length was.lines + 1)) → now ≡ told_lines was new.journal.history
counted_again old new was now l J whole e same count =
    let a = ap (λ (j : Kept). length j.history) same in
    let b = ap length e in
    let c = ap length whole in
    let low : length J.history ≤ length was.lines + 1 = omega (arith, a, b, c) in
    count ∙ ap (told_lines was) (oldest-over J.history (length was.lines + 1) low ∙ ap (λ (j : Kept). j.history) same)

-- the floor after a line
pub counted_line : (table : TableId) (day same : Day) (old new : OnFloor) (was seen now : Told) → IsCounted table day old was → seen ≡ was → now ≡ told_lines seen new.journal.history → same ≡ day → IsFor same new → IsCounted table day new now
counted_line table day same old new was seen now before stays count is opened = record {
  table_is = ap (λ (t : Told). t.table) count ∙ ap (λ (t : Told). t.table) stays ∙ before.table_is;
  day_is = ap (λ (t : Told). t.day) count ∙ ap (λ (t : Told). t.day) stays ∙ before.day_is;
  whole = ap (λ (t : Told). t.lines) count;
  opened = subst (λ (d : Day). IsFor d new) is opened;
}

-- the floor where there was no line
pub counted_still : (table : TableId) (day same : Day) (old new : OnFloor) (was now : Told) → IsCounted table day old was → now ≡ was → new ≡ old → same ≡ day → IsFor same new → IsCounted table day new now
counted_still table day same old new was now before stays e is opened = record {
  table_is = ap (λ (t : Told). t.table) stays ∙ before.table_is;
  day_is = ap (λ (t : Told). t.day) stays ∙ before.day_is;
  whole = ap (λ (t : Told). t.lines) stays ∙ before.whole ∙ sym (ap (λ (f : OnFloor). f.journal.history) e);
  opened = subst (λ (d : Day). IsFor d new) is opened;
}
