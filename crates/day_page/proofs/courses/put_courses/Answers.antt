use Rattle.std.proofs.Common.{refl, subst, sym}
use Rattle.day_page.specs.Courses.{course, series}
use Rattle.day_page.specs.Extents.{Clocks}
use Rattle.day_page.proofs.PointFacts.{clocks_stay}
use Rattle.day_page.proofs.Ranges.{join_at, put_at}
use Rattle.day_page.proofs.courses.put_courses.Goals as goal

pub put_course-requires-clause-clocks : goal.put_course-requires-clause-clocks
put_course-requires-clause-clocks c =
    subst (Clocks c.args.setting.now.day c.args.shown.now c.args.journal.now.history) (sym c.loop-index.invariant.points) (clocks_stay c.args.setting.now.day c.args.shown.now c.args.journal.now.history c.args.points.now.items _ c.requires.clocks)

pub loop-index-preserved : goal.loop-index-preserved
loop-index-preserved c = record {
  courses = put_at (course c.args.setting.now.day c.args.shown.now c.args.journal.now.history) _ _ _ c.args.shown.now c.loop-index.index 0 _ c.loop-index-test.true c.loop-index.invariant.courses refl c.in_ok-put_course.ensures.courses;
  points = join_at (series c.args.setting.now.day c.args.shown.now c.args.journal.now.history) _ _ _ _ c.args.shown.now c.loop-index.index 0 c.loop-index-test.true c.loop-index.invariant.points refl c.in_ok-put_course.ensures.points;
}
