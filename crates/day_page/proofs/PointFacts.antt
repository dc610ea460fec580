-- The points of an account at the stops, by those of all that are shown.
use Rattle.std.proofs.Common.{◌≡◌, ◌∙◌, ℕ, ◌+◌, ◌<◌, ◌≤◌, List, [], ◌∷◌, ◌++◌, length, get_or, map, take, ap, sym, arith, length-append}
use Rattle.std.specs.Prelude.{slice_index}
use Rattle.std.proofs.lemmas.List.{get_or-map, get_or_append_left, get_or_at, length-map, length_push, map_more, take_all}
use Rattle.std.proofs.lemmas.List.Sums.{sum_by-cons}
use Rattle.batch_records.specs.DayRecord.{Day}
use Rattle.row_list.specs.Rows.{row_at, with_item}
use Rattle.commit_journal.specs.Line.{History}
use Rattle.rule_book.proofs.LastRows.{with_item_last}
use Rattle.machine.specs.Telling.Balances.{balance}
use Rattle.machine.specs.Telling.History.{clock}
use Rattle.day_page.specs.declared.courses.Point.{Point}
use Rattle.day_page.specs.Courses.{point, total}
use Rattle.day_page.specs.Extents.{Clocks, held_at_stops}
use Rattle.day_page.specs.Stops.{earlier_stops, stops}

-- ---- the clocks

pub clocks_stay : (day : Day) (members : List ℕ) (J : History) (points more : List Point) → Clocks day members J points → Clocks day members J (points ++ more)
clocks_stay day members J points more clocks = λ i d l.
    let at = clocks i d l in
    let long = length-append points more in
    let inside = at.0 in
    (omega (arith, long, inside), ap (λ (p : Point). p.clock) (get_or_append_left points more d i inside) ∙ at.1)

pub clocks_of : (day : Day) (members : List ℕ) (J : History) (points : List Point) → points ≡ map (point day members 0) (stops J) → Clocks day members J points
clocks_of day members J points e = λ i d l.
    let long = ap length e ∙ length-map (stops J) (point day members 0) in
    (omega (arith, long, l), ap (λ (p : Point). p.clock) (ap (λ (ps : List Point). get_or ps i d) e ∙ get_or-map (point day members 0) (stops J) i [] d l))

-- ---- at a stop

many_stops : (J : History) → length (stops J) ≡ length (earlier_stops J) + 1
many_stops J = length-append (earlier_stops J) (J ∷ [])

pub inside_stops : (J : History) (i : ℕ) → i ≤ length (earlier_stops J) → i < length (stops J)
inside_stops J i l = let many = many_stops J in omega (arith, many, l)

clock_at : (day : Day) (members : List ℕ) (J : History) (points : List Point) (i c : ℕ) (d : Point) → Clocks day members J points → i < length (earlier_stops J) → c ≡ (get_or points i d).clock → c ≡ clock (get_or (earlier_stops J) i [])
clock_at day members J points i c d clocks l is =
    is ∙ (clocks i d (inside_stops J i (omega (arith, l)))).1 ∙ ap clock (get_or_append_left (earlier_stops J) (J ∷ []) [] i l)

cents_at : (day : Day) (members : List ℕ) (J : History) (rows : List (List ℕ)) (i index c : ℕ) → rows ≡ held_at_stops day members J → i < length (earlier_stops J) → index < length members
    → c ≡ slice_index (row_at rows i) index → c ≡ total day (slice_index members index ∷ []) (get_or (earlier_stops J) i [])
cents_at day members J rows i index c e l within is =
    let K : History = get_or (earlier_stops J) i [] in
    let a : ℕ = slice_index members index in
    let row : row_at rows i ≡ map (balance day K) members = ap (λ (rs : List (List ℕ)). row_at rs i) e ∙ get_or-map (λ (P : History). map (balance day P) members) (earlier_stops J) i [] [] l in
    let held : c ≡ balance day K a = is ∙ ap (λ (r : List ℕ). slice_index r index) row ∙ get_or-map (balance day K) members index 0 0 within in
    let one : total day (a ∷ []) K ≡ balance day K a + total day [] K = sum_by-cons (balance day K) a [] in
    omega (arith, held, one)

pub point_at_stop : (day : Day) (members : List ℕ) (J : History) (points : List Point) (rows : List (List ℕ)) (i index a c held : ℕ) (d : Point) → Clocks day members J points → rows ≡ held_at_stops day members J
    → i < length (earlier_stops J) → index < length members → a ≡ slice_index members index → c ≡ (get_or points i d).clock → held ≡ slice_index (row_at rows i) index
    → record { account = a; clock = c; cents = held } ≡ point day (slice_index members index ∷ []) (slice_index members index) (get_or (earlier_stops J) i [])
point_at_stop day members J points rows i index a c held d clocks e l within account time is =
    λ k. record { account = account k; clock = clock_at day members J points i c d clocks l time k; cents = cents_at day members J rows i index held e l within is k }

-- ---- at the end

pub point_at_end : (day : Day) (members : List ℕ) (J : History) (points : List Point) (count index a c held : ℕ) (d : Point) → Clocks day members J points → count ≡ length (earlier_stops J)
    → a ≡ slice_index members index → c ≡ (get_or points count d).clock → held ≡ total day (slice_index members index ∷ []) J
    → record { account = a; clock = c; cents = held } ≡ point day (slice_index members index ∷ []) (slice_index members index) J
point_at_end day members J points count index a c held d clocks e account time is =
    let last : get_or (stops J) count [] ≡ J = get_or_at (earlier_stops J) J [] [] count (sym e) in
    let at : c ≡ clock J = time ∙ (clocks count d (inside_stops J count (omega (arith, e)))).1 ∙ ap clock last in
    λ k. record { account = account k; clock = at k; cents = is k }

pub all_taken : {X : Type 0} (f : History → X) (J : History) (count : ℕ) (base put : List X) → count ≡ length (earlier_stops J) → put ≡ base ++ map f (take count (earlier_stops J)) → put ≡ base ++ map f (earlier_stops J)
all_taken {X} f J count base put e is = is ∙ ap (λ (Ks : List History). base ++ map f Ks) (take_all count (earlier_stops J) (omega (arith, e)))

-- ---- a row of what is held

pub some_rows : (base rows : List (List ℕ)) (row : List ℕ) → rows ≡ base ++ row ∷ [] → 0 < length rows
some_rows base rows row e =
    let same = ap length e in
    let long = length_push base row in
    omega (arith, same, long)

pub row_pushed : (f : ℕ → ℕ) (base rows new : List (List ℕ)) (shown : List ℕ) (i d x : ℕ) → i < length shown → rows ≡ base ++ map f (take i shown) ∷ [] → x ≡ f (get_or shown i d) → new ≡ with_item x rows → new ≡ base ++ map f (take (i + 1) shown) ∷ []
row_pushed f base rows new shown i d x l known is put =
    put ∙ (λ k. with_item (is k) (known k)) ∙ with_item_last (f (get_or shown i d)) base (map f (take i shown)) ∙ ap (λ (row : List ℕ). base ++ row ∷ []) (sym (map_more f shown i d l))

pub row_done : (f : ℕ → ℕ) (base rows : List (List ℕ)) (shown : List ℕ) (i : ℕ) → length shown ≤ i → rows ≡ base ++ map f (take i shown) ∷ [] → rows ≡ base ++ map f shown ∷ []
row_done f base rows shown i l known = known ∙ ap (λ (xs : List ℕ). base ++ map f xs ∷ []) (take_all i shown l)
