-- What is known of the figures of a page.
use Rattle.std.specs.Prelude.{ℕ, ◌≡◌, List}
use Rattle.batch_records.specs.DayRecord.{Day}
use Rattle.commit_journal.specs.Line.{History}
use Rattle.day_facts.specs.Facts.{Facts, StandsFor}
use Rattle.day_page.specs.declared.words.Request.{Request}
use Rattle.day_page.specs.declared.bars.Mark.{Mark}
use Rattle.day_page.specs.declared.courses.Course.{Course}
use Rattle.day_page.specs.declared.courses.Point.{Point}
use Rattle.day_page.specs.declared.peaks.Peaks.{Peaks}
use Rattle.day_page.specs.declared.waits.Waiting.{Waiting}
use Rattle.day_page.specs.Bars.{bars, changes, marks}
use Rattle.day_page.specs.Courses.{all_points, courses, shown}
use Rattle.day_page.specs.Peaks.{peaks}
use Rattle.day_page.specs.Waits.{all_waiting}

pub record HaveCourses (day : Day) (r : Request) (J : History) (rows : List Course) (marked : List Point) : Type 0 where
  pub courses : rows ≡ courses day (shown day r J) J
  pub points : marked ≡ all_points day (shown day r J) J

pub record AreWatched (day : Day) (r : Request) (J : History) (facts : Facts) (waited : List Waiting) (top : Peaks) (drawn : List ℕ) (changed : List Mark) : Type 0 where
  pub stands : StandsFor day J facts
  pub waits : waited ≡ all_waiting day r J
  pub peaks : top ≡ peaks day r J
  pub changes : changed ≡ changes (marks day (bars day r J) J) (bars day r J)
  pub bars : drawn ≡ bars day r J
