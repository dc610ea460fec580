-- A series ends at the balance that the journal has.
use Rattle.std.proofs.Common.{◌≡◌, List, [], ◌∷◌, ◌++◌, refl}
use Rattle.std.specs.Prelude.{map}
use Rattle.commit_journal.specs.Line.{History}
use Rattle.day_page.specs.declared.courses.Point.{Point}
use Rattle.day_page.specs.Courses.{members, point}
use Rattle.day_page.specs.Laws.{SeriesEnds, last_point}
use Rattle.day_page.specs.Stops.{earlier_stops}

-- the last of a list and one more is that one
last_of : (f : History → Point) (Ks : List History) (J : History) (before : Point) → last_point before (map f (Ks ++ J ∷ [])) ≡ f J
unfolding last_point
last_of f [] J before = refl
last_of f (K ∷ Ks) J before = last_of f Ks J (f K)

pub series_ends : SeriesEnds
series_ends day accounts n J before = last_of (point day (members accounts n) n) (earlier_stops J) J before
