-- The rows of a page: all that are shown, and each of them.
use Rattle.std.proofs.Common.{◌≡◌, ◌∙◌, ℕ, ◌<◌, List, [], ◌∷◌, ◌++◌, length, map, ap, sym, arith, refl}
use Rattle.std.specs.List.{flat_map}
use Rattle.std.proofs.lemmas.List.{length-map}
use Rattle.batch_records.specs.DayRecord.{Day}
use Rattle.commit_journal.specs.Line.{History}
use Rattle.day_page.specs.declared.courses.Course.{Course}
use Rattle.day_page.specs.declared.courses.Point.{Point}
use Rattle.day_page.specs.declared.courses.Running.{Running}
use Rattle.day_page.specs.Courses.{all_points, course, courses, point, rows, series, total}
use Rattle.day_page.specs.Running.{running}
use Rattle.day_page.specs.Stops.{earlier_stops, stops}
use Rattle.day_page.proofs.CourseFacts.{course_is, point_is}
use Rattle.day_page.proofs.StopFacts.{map_all}

pub no_rows : (accounts : List ℕ) → length accounts ≡ 0 → rows accounts ≡ []
no_rows [] none = refl
no_rows (a ∷ accounts) none = absurd (omega (arith, none))

pub with_total : (accounts : List ℕ) → 0 < length accounts → rows accounts ≡ 0 ∷ accounts
with_total [] some = absurd (omega (arith, some))
with_total (a ∷ accounts) some = refl

-- ---- where nothing was there before

pub first_stops : (day : Day) (accounts : List ℕ) (J : History) (base put : List Point) → base ≡ [] → put ≡ base ++ map (point day accounts 0) (earlier_stops J) → put ≡ map (point day accounts 0) (earlier_stops J)
first_stops day accounts J base put none is = is ∙ ap (λ (ps : List Point). ps ++ map (point day accounts 0) (earlier_stops J)) none

pub many_stops : (day : Day) (accounts : List ℕ) (J : History) (base put : List Point) → base ≡ [] → put ≡ base ++ map (point day accounts 0) (earlier_stops J) → length put ≡ length (earlier_stops J)
many_stops day accounts J base put none is = ap length (first_stops day accounts J base put none is) ∙ length-map (earlier_stops J) (point day accounts 0)

pub total_points : (day : Day) (accounts : List ℕ) (J : History) (base before put : List Point) (at : Running) → base ≡ [] → before ≡ base ++ map (point day accounts 0) (earlier_stops J) → at ≡ running day accounts J
    → put ≡ before ++ record { account = 0; clock = at.clock; cents = at.held } ∷ [] → put ≡ map (point day accounts 0) (stops J)
total_points day accounts J base before put at none earlier known is =
    map_all (point day accounts 0) J [] before put (first_stops day accounts J base before none earlier) (is ∙ ap (λ (p : Point). before ++ p ∷ []) (point_is day accounts J 0 at known))

pub points_of_all : (day : Day) (accounts : List ℕ) (J : History) (before put : List Point) → 0 < length accounts → before ≡ map (point day accounts 0) (stops J) → put ≡ before ++ flat_map (series day accounts J) accounts → put ≡ all_points day accounts J
points_of_all day accounts J before put some known is = is ∙ ap (λ (ps : List Point). ps ++ flat_map (series day accounts J) accounts) known ∙ ap (flat_map (series day accounts J)) (sym (with_total accounts some))

pub courses_of_all : (day : Day) (accounts : List ℕ) (J : History) (base before put : List Course) (at : Running) → 0 < length accounts → base ≡ [] → at ≡ running day accounts J
    → before ≡ base ++ record { account = 0; opening = total day accounts []; lowest = at.lowest; highest = at.highest; closing = at.held } ∷ [] → put ≡ before ++ map (course day accounts J) accounts → put ≡ courses day accounts J
courses_of_all day accounts J base before put at some none known first is =
    let top : Course = record { account = 0; opening = total day accounts []; lowest = at.lowest; highest = at.highest; closing = at.held } in
    is ∙ ap (λ (cs : List Course). cs ++ map (course day accounts J) accounts) (first ∙ ap (λ (cs : List Course). cs ++ top ∷ []) none ∙ ap (λ (one : Course). one ∷ []) (course_is day accounts J 0 (total day accounts []) at known refl))
    ∙ ap (map (course day accounts J)) (sym (with_total accounts some))
