use Rattle.outside_io.proofs.PutLemmas.{has_put_is, has_put_more, has_put_none, puts_front}
use Rattle.day_page.specs.BalanceTexts.{course_text}
use Rattle.day_page.proofs.TextFacts.{next_at, parts_at}
use Rattle.day_page.proofs.balances.put_courses.Goals as goal

pub loop-course-init : goal.loop-course-init
loop-course-init g c = has_put_none _

pub returns-in_err-put_own_course : goal.returns-in_err-put_own_course
returns-in_err-put_own_course g c =
    puts_front _ _ _ _ _ _ _ _ _ c.from_residual.ensures.0 (parts_at (course_text c.args.setting.now.day c.args.points.now) c.args.courses.now c.loop-course.course-index _ c.loop-course-test.true) c.loop-course.invariant c.in_err-put_own_course.ensures

pub loop-course-preserved : goal.loop-course-preserved
loop-course-preserved g c = has_put_is _ _ _ _ (next_at (course_text c.args.setting.now.day c.args.points.now) c.args.courses.now c.loop-course.course-index _ c.loop-course-test.true) (has_put_more _ _ _ _ _ _ c.loop-course.invariant c.in_ok-put_own_course.ensures)
