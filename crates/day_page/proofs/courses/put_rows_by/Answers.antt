use Rattle.std.proofs.Common.{◌∙◌, ◌++◌, ap, arith}
use Rattle.day_page.specs.Extents.{held_at_stops}
use Rattle.day_page.proofs.PointFacts.{clocks_of}
use Rattle.day_page.proofs.TotalFacts.{courses_of_all, many_stops, points_of_all, total_points}
use Rattle.day_page.proofs.courses.put_rows_by.Goals as goal

pub put_courses-requires-clause-stops : goal.put_courses-requires-clause-stops
put_courses-requires-clause-stops c =
    let many = many_stops c.args.setting.now.day c.args.shown.now c.args.journal.now.history _ _ c.requires.points c.in_ok-at.ensures.points in
    let long = c.run.new.points.ok in
    let count = c.len-stops.ensures in
    omega (arith, many, long, count)

pub put_courses-requires-clause-helds : goal.put_courses-requires-clause-helds
put_courses-requires-clause-helds c = c.in_ok-at.ensures.helds ∙ ap (λ rows. rows ++ held_at_stops c.args.setting.now.day c.args.shown.now c.args.journal.now.history) c.requires.helds

pub put_courses-requires-clause-clocks : goal.put_courses-requires-clause-clocks
put_courses-requires-clause-clocks c =
    clocks_of c.args.setting.now.day c.args.shown.now c.args.journal.now.history _ (total_points c.args.setting.now.day c.args.shown.now c.args.journal.now.history _ _ _ c.in_ok-at.at c.requires.points c.in_ok-at.ensures.points c.in_ok-at.ensures.at c.in_ok-put_total.ensures.points)

pub returns-clause-courses : goal.returns-clause-courses
returns-clause-courses c =
    courses_of_all c.args.setting.now.day c.args.shown.now c.args.journal.now.history _ _ _ c.in_ok-at.at c.requires.some c.requires.courses c.in_ok-at.ensures.at c.in_ok-put_total.ensures.courses c.in_ok-put_courses.ensures.courses

pub returns-clause-points : goal.returns-clause-points
returns-clause-points c =
    points_of_all c.args.setting.now.day c.args.shown.now c.args.journal.now.history _ _ c.requires.some
    (total_points c.args.setting.now.day c.args.shown.now c.args.journal.now.history _ _ _ c.in_ok-at.at c.requires.points c.in_ok-at.ensures.points c.in_ok-at.ensures.at c.in_ok-put_total.ensures.points)
    c.in_ok-put_courses.ensures.points
