-- Where the taking of messages starts, and how a scan goes on.
use Rattle.std.specs.Prelude.{◌≡◌, ℕ, ◌+◌, ◌-◌, ◌<◌, ◌≤◌, Option, Some, None}
use Rattle.batch_records.specs.DayRecord.{Day}
use Rattle.commit_journal.specs.Line.{History}
use Rattle.scan_laws.specs.Numbers.{item_count}
use Rattle.scan_laws.specs.Runs.{scan_from}

-- how many of so many messages stand before this one; all, where it is none
abbrev pub before_in : ℕ → Option ℕ → ℕ
before_in count None = count
before_in count (Some n) = n - 1

-- from a number on the item of number x had its chance, and what the scan makes after it is what it made; or no item is left that has a
-- line, and nothing was made
abbrev pub IsVisited : Day → ℕ → History → History → Option ℕ → Type 0
IsVisited day from J K None = (K ≡ J) × (from ≤ item_count day → J ≡ scan_from day J from)
IsVisited day from J K (Some x) = (from ≤ x) × (x < item_count day) × (scan_from day K (x + 1) ≡ scan_from day J from)
