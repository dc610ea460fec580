-- What is known of the figures of a page, by what the calls that find them promise.
use Rattle.std.proofs.Common.{◌≡◌, ◌∙◌, ℕ, List, Result, Ok, Err, ap, subst}
use Rattle.std.specs.Prelude.{IfOk}
use Rattle.batch_records.specs.DayRecord.{Day}
use Rattle.commit_journal.specs.Line.{History}
use Rattle.day_facts.specs.Facts.{Facts, StandsFor}
use Rattle.day_page.specs.declared.words.Request.{Request}
use Rattle.day_page.specs.declared.bars.Mark.{Mark}
use Rattle.day_page.specs.declared.courses.Balances.{Balances}
use Rattle.day_page.specs.declared.peaks.Peaks.{Peaks}
use Rattle.day_page.specs.declared.sheet.Watched.{Watched}
use Rattle.day_page.specs.declared.waits.Waiting.{Waiting}
use Rattle.day_page.specs.Bars.{bars, changes, marks}
use Rattle.day_page.specs.Courses.{all_points, courses, shown}
use Rattle.day_page.specs.Peaks.{peaks}
use Rattle.day_page.specs.Sheets.{AreWatched, HaveCourses}
use Rattle.day_page.specs.Waits.{all_waiting}

pub have_courses : {E : Type 0} (day : Day) (r : Request) (J : History) (accounts : List ℕ) (result : Result Balances E) → accounts ≡ shown day r J →
    IfOk result (λ b. b.courses.items ≡ courses day accounts J) → IfOk result (λ b. b.points.items ≡ all_points day accounts J) → IfOk result (λ b. HaveCourses day r J b.courses.items b.points.items)
have_courses day r J accounts (Ok b) e c p = record { courses = c ∙ ap (λ (xs : List ℕ). courses day xs J) e; points = p ∙ ap (λ (xs : List ℕ). all_points day xs J) e }
have_courses day r J accounts (Err e) same c p = tt

-- of lists that are looked at as slices
pub are_watched : (day : Day) (r : Request) (J : History) (facts : Facts) (waited : List Waiting) (top : Peaks) (drawn first again : List ℕ) (marked seen changed : List Mark) →
    StandsFor day J facts → waited ≡ all_waiting day r J → top ≡ peaks day r J → drawn ≡ bars day r J → first ≡ drawn → marked ≡ marks day first J → seen ≡ marked → again ≡ drawn → changed ≡ changes seen again →
    AreWatched day r J facts waited top drawn changed
are_watched day r J facts waited top drawn first again marked seen changed stands waits highest b f m s a c = record {
  stands = stands;
  waits = waits;
  peaks = highest;
  changes = c ∙ (λ i. changes ((s ∙ m ∙ ap (λ (xs : List ℕ). marks day xs J) (f ∙ b)) i) ((a ∙ b) i));
  bars = b;
}

-- of all lines up to the last, which are the whole journal
pub watched_whole : {E : Type 0} (day : Day) (r : Request) (last J : History) (result : Result Watched E) → last ≡ J →
    IfOk result (λ w. AreWatched day r last w.facts w.waits.items w.peaks w.bars.items w.changes.items) → IfOk result (λ w. AreWatched day r J w.facts w.waits.items w.peaks w.bars.items w.changes.items)
watched_whole day r last J result e watched = subst (λ (H : History). IfOk result (λ w. AreWatched day r H w.facts w.waits.items w.peaks w.bars.items w.changes.items)) e watched

-- what follows from what holds at Ok
pub then_ok : {T E A B : Type 0} (result : Result T E) → (A → B) → IfOk result (λ x. A) → IfOk result (λ x. B)
then_ok (Ok x) f a = f a
then_ok (Err e) f a = tt
