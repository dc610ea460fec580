use Rattle.std.proofs.Common.{◌≡◌, ◌∙◌, ◌++◌, ◌<◌, ◌∷◌, [], ap, arith, length, refl, subst, sym}
use Rattle.std.specs.Prelude.{slice_index}
use Rattle.day_page.specs.declared.courses.Point.{Point}
use Rattle.day_page.specs.declared.extents.Extent.{Extent}
use Rattle.day_page.specs.Courses.{point}
use Rattle.day_page.specs.Extents.{Clocks}
use Rattle.day_page.specs.Stops.{earlier_stops}
use Rattle.day_page.proofs.PointFacts.{all_taken, clocks_stay, inside_stops, point_at_end, point_at_stop}
use Rattle.day_page.proofs.Ranges.{put_at}
use Rattle.day_page.proofs.StopFacts.{map_all}
use Rattle.day_page.proofs.courses.put_points.Goals as goal

pub clock_of-clock-requires : goal.clock_of-clock-requires
clock_of-clock-requires c =
    let none : Point = record { account = 0; clock = 0; cents = 0 } in
    let clocks = subst (Clocks c.args.setting.now.day c.args.shown.now c.args.journal.now.history) (sym c.loop-stop.invariant) (clocks_stay c.args.setting.now.day c.args.shown.now c.args.journal.now.history c.args.points.now.items _ c.requires.clocks) in
    (clocks c.loop-stop.stop none (inside_stops c.args.journal.now.history c.loop-stop.stop (omega (arith, c.loop-stop-test.true, c.requires.stops)))).0

pub loop-stop-preserved : goal.loop-stop-preserved
loop-stop-preserved c =
    let day = c.args.setting.now.day in
    let J = c.args.journal.now.history in
    let shown = c.args.shown.now in
    let a = slice_index shown c.args.index in
    let none : Point = record { account = 0; clock = 0; cents = 0 } in
    let clocks = subst (Clocks day shown J) (sym c.loop-stop.invariant) (clocks_stay day shown J c.args.points.now.items _ c.requires.clocks) in
    let inside : c.loop-stop.stop < length (earlier_stops J) = omega (arith, c.loop-stop-test.true, c.requires.stops) in
    put_at (point day (a ∷ []) a) c.args.points.now.items c.loop-stop.points.items _ (earlier_stops J) c.loop-stop.stop [] _ inside c.loop-stop.invariant
    (point_at_stop day shown J c.loop-stop.points.items c.args.helds.now.rows c.loop-stop.stop c.args.index a _ _ none clocks c.requires.helds inside c.requires.within refl (c.clock_of-clock.ensures none) (c.from.ensures ∙ c.held_at_stop.ensures))
    c.in_ok-push.ensures.items

pub clock_of-clock-requires-2 : goal.clock_of-clock-requires-2
clock_of-clock-requires-2 c =
    let none : Point = record { account = 0; clock = 0; cents = 0 } in
    let clocks = subst (Clocks c.args.setting.now.day c.args.shown.now c.args.journal.now.history) (sym c.loop-stop.invariant) (clocks_stay c.args.setting.now.day c.args.shown.now c.args.journal.now.history c.args.points.now.items _ c.requires.clocks) in
    (clocks c.args.stops none (inside_stops c.args.journal.now.history c.args.stops (omega (arith, c.requires.stops)))).0

pub returns : goal.returns
returns c =
    let day = c.args.setting.now.day in
    let J = c.args.journal.now.history in
    let shown = c.args.shown.now in
    let a = slice_index shown c.args.index in
    let none : Point = record { account = 0; clock = 0; cents = 0 } in
    let clocks = subst (Clocks day shown J) (sym c.loop-stop.invariant) (clocks_stay day shown J c.args.points.now.items _ c.requires.clocks) in
    let all : c.loop-stop.stop ≡ length (earlier_stops J) = omega (arith, c.loop-stop-test.false, c.loop-stop.auto, c.requires.stops) in
    map_all (point day (a ∷ []) a) J c.args.points.now.items c.loop-stop.points.items _ (all_taken (point day (a ∷ []) a) J c.loop-stop.stop c.args.points.now.items c.loop-stop.points.items all c.loop-stop.invariant)
    (c.in_ok-push-2.ensures.items ∙ ap (λ (p : Point). c.loop-stop.points.items ++ p ∷ []) (point_at_end day shown J c.loop-stop.points.items c.args.stops c.args.index a _ _ none clocks c.requires.stops refl (c.clock_of-clock-2.ensures none) (ap (λ (x : Extent). x.held) c.requires.extent)))
