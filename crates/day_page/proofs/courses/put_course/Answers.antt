use Rattle.std.proofs.Common.{◌∙◌, ◌++◌, ◌∷◌, ℕ, List, [], ap, arith, sym}
use Rattle.std.specs.Prelude.{slice_index}
use Rattle.day_page.specs.declared.courses.Course.{Course}
use Rattle.day_page.specs.Courses.{course_on, series_on}
use Rattle.day_page.proofs.CourseFacts.{one_member}
use Rattle.day_page.proofs.ExtentHolds.{extent_is, many_extents}
use Rattle.day_page.proofs.courses.put_course.Goals as goal

pub extent_at-extent-requires-clause-from : goal.extent_at-extent-requires-clause-from
extent_at-extent-requires-clause-from c = (c.requires.accounts c.args.index c.requires.within).0

pub extent_at-extent-requires-clause-to : goal.extent_at-extent-requires-clause-to
extent_at-extent-requires-clause-to c =
    let many = many_extents c.args.setting.now.day c.args.journal.now.history c.args.extents.now c.requires.extents in
    let inside = (c.requires.accounts c.args.index c.requires.within).1 in
    omega (arith, many, inside)

pub put_points-requires-clause-extent : goal.put_points-requires-clause-extent
put_points-requires-clause-extent c =
    let a = c.requires.accounts c.args.index c.requires.within in
    extent_is c.args.setting.now.day c.args.journal.now.history c.args.extents.now (slice_index c.args.shown.now c.args.index) c.extent_at-extent.result a.0 a.1 c.requires.extents c.extent_at-extent.ensures

pub returns-clause-courses : goal.returns-clause-courses
returns-clause-courses c =
    let day = c.args.setting.now.day in
    let J = c.args.journal.now.history in
    let n = slice_index c.args.shown.now c.args.index in
    let a = c.requires.accounts c.args.index c.requires.within in
    let extent = extent_is day J c.args.extents.now n c.extent_at-extent.result a.0 a.1 c.requires.extents c.extent_at-extent.ensures in
    let low = a.0 in
    c.in_ok-push.ensures.items
    ∙ ap (λ (course : Course). c.args.courses.now.items ++ course ∷ []) (c.course_of.ensures J extent ∙ ap (λ (ms : List ℕ). course_on day ms J n) (sym (one_member c.args.shown.now n (λ none. omega (arith, low, none)))))

pub returns-clause-points : goal.returns-clause-points
returns-clause-points c =
    let n = slice_index c.args.shown.now c.args.index in
    let low = (c.requires.accounts c.args.index c.requires.within).0 in
    c.in_ok-put_points.ensures ∙ ap (λ (ms : List ℕ). c.args.points.now.items ++ series_on c.args.setting.now.day ms c.args.journal.now.history n) (sym (one_member c.args.shown.now n (λ none. omega (arith, low, none))))
