-- What holds of the page of every journal.
use Rattle.std.specs.Prelude.{ℕ, ◌≡◌, ◌≤◌, true, List, [], ◌∷◌}
use Rattle.std.specs.List.{list_all}
use Rattle.cash_amounts.specs.Names.{is_id, is_name}
use Rattle.batch_records.specs.DayRecord.{Day}
use Rattle.commit_journal.specs.Line.{History}
use Rattle.commit_journal.specs.Histories.{Begins}
use Rattle.machine.specs.Telling.History.{clock}
use Rattle.day_page.specs.declared.courses.Point.{Point}
use Rattle.day_page.specs.declared.words.Request.{Request}
use Rattle.day_page.specs.Courses.{highest, lowest, members, series, total}
use Rattle.day_page.specs.Markup.{is_plain}
use Rattle.day_page.specs.Peaks.{peak}
use Rattle.day_page.specs.Waits.{waiting_cents}

-- names and identifications have no byte of the markup
abbrev pub NamesArePlain : Type 0
NamesArePlain = (text : List ℕ) → is_name text ≡ true → list_all is_plain text ≡ true

abbrev pub IdsArePlain : Type 0
IdsArePlain = (text : List ℕ) → is_id text ≡ true → list_all is_plain text ≡ true

-- the lowest balance is one of some beginning of the journal, and at none it was lower
abbrev pub IsLowest : Type 0
IsLowest = (day : Day) (accounts : List ℕ) (J : History) → (P : History) × Begins P J × (lowest day accounts J ≡ total day accounts P)

abbrev pub IsBelow : Type 0
IsBelow = (day : Day) (accounts : List ℕ) (J P : History) → Begins P J → lowest day accounts J ≤ total day accounts P

-- the highest balance is one of some beginning of the journal, and at none it was higher
abbrev pub IsHighest : Type 0
IsHighest = (day : Day) (accounts : List ℕ) (J : History) → (P : History) × Begins P J × (highest day accounts J ≡ total day accounts P)

abbrev pub IsAbove : Type 0
IsAbove = (day : Day) (accounts : List ℕ) (J P : History) → Begins P J → total day accounts P ≤ highest day accounts J

-- the highest sum of what waits is one of some beginning of the journal, and at none more waited
abbrev pub IsMost : Type 0
IsMost = (day : Day) (r : Request) (J : History) (p : ℕ) → (P : History) × Begins P J × (peak day r J p ≡ waiting_cents day r P p)

abbrev pub IsAboveAll : Type 0
IsAboveAll = (day : Day) (r : Request) (J P : History) (p : ℕ) → Begins P J → waiting_cents day r P p ≤ peak day r J p

-- the last point of a series
unfoldable pub last_point : Point → List Point → Point
last_point before [] = before
last_point before (p ∷ points) = last_point p points

-- a series ends at the balance that the journal has, at the time at which its clock stands
abbrev pub SeriesEnds : Type 0
SeriesEnds = (day : Day) (accounts : List ℕ) (n : ℕ) (J : History) (before : Point) →
    last_point before (series day accounts J n) ≡ record { account = n; clock = clock J; cents = total day (members accounts n) J }

-- ---- the same of the figures over one journal

pub record FiguresHold (day : Day) (r : Request) (J : History) : Type 0 where
  -- a series ends where the journal does
  pub series_ends : (accounts : List ℕ) (n : ℕ) (before : Point) →
      last_point before (series day accounts J n) ≡ record { account = n; clock = clock J; cents = total day (members accounts n) J }
  -- the lowest and the highest balance, and the highest sum that waits, are those of some beginning, and of all beginnings the least and the most
  pub lowest_is_one : (accounts : List ℕ) → (P : History) × Begins P J × (lowest day accounts J ≡ total day accounts P)
  pub lowest_is_least : (accounts : List ℕ) (P : History) → Begins P J → lowest day accounts J ≤ total day accounts P
  pub highest_is_one : (accounts : List ℕ) → (P : History) × Begins P J × (highest day accounts J ≡ total day accounts P)
  pub highest_is_most : (accounts : List ℕ) (P : History) → Begins P J → total day accounts P ≤ highest day accounts J
  pub peak_is_one : (p : ℕ) → (P : History) × Begins P J × (peak day r J p ≡ waiting_cents day r P p)
  pub peak_is_most : (p : ℕ) (P : History) → Begins P J → waiting_cents day r P p ≤ peak day r J p
