-- The highest sums that waited.
use Rattle.std.specs.Prelude.{ℕ, max, [], ◌∷◌}
use Rattle.batch_records.specs.DayRecord.{Day}
use Rattle.commit_journal.specs.Line.{History}
use Rattle.day_page.specs.declared.peaks.Peaks.{Peaks}
use Rattle.day_page.specs.declared.words.Request.{Request}
use Rattle.day_page.specs.Waits.{waiting_cents}

-- the highest sum of a priority over all beginnings of the journal, also between stops
unfoldable pub peak : Day → Request → History → ℕ → ℕ
peak day r [] p = waiting_cents day r [] p
peak day r (l ∷ J) p = max (peak day r J p) (waiting_cents day r (l ∷ J) p)

-- 0 is urgent, 1 is high, 2 is normal
abbrev pub peaks : Day → Request → History → Peaks
peaks day r J = record { urgent = peak day r J 0; high = peak day r J 1; normal = peak day r J 2 }
