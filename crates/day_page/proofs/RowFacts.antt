-- Points stand by the numbers of their accounts, so those of an account stand together.
use Rattle.std.proofs.Common.{◌≡◌, ◌∙◌, ℕ, zero, suc, ◌+◌, ◌-◌, ◌≤◌, ◌<◌, Bool, true, false, List, [], ◌∷◌, ◌++◌, length, take, drop, get_or, refl, sym, ap, arith, append-nil, take-append-drop, if◌then◌else◌}
use Rattle.std.specs.Prelude.{codes, map, min, nat_le, nat_lt, ⊤}
use Rattle.std.specs.List.{flat_map, range_with_len}
use Rattle.std.specs.List.Sorted.{IsPartitionPoint}
use Rattle.std.proofs.lemmas.Bool.{leb-false, ltb-true, ne_eqb}
use Rattle.std.proofs.lemmas.Grind.{flat_map-append}
use Rattle.std.proofs.lemmas.List.{get_or-drop, get_or-take, length-drop, length-take}
use Rattle.batch_records.specs.DayRecord.{Day}
use Rattle.commit_journal.specs.Line.{History}
use Rattle.cash_amounts.specs.AmountText.{amount_text}
use Rattle.day_page.specs.declared.courses.Course.{Course}
use Rattle.day_page.specs.declared.courses.Point.{Point}
use Rattle.day_page.specs.declared.movers.Mover.{Mover}
use Rattle.day_page.specs.declared.words.Request.{Request}
use Rattle.day_page.specs.BalanceTexts.{course_figures, course_head, course_path, course_rows, course_table, course_text, point_row, point_step, step_text, table_tail}
use Rattle.day_page.specs.Courses.{all_points, is_shown, members, mover, movers, point, rows, series, shown, shown_part}
use Rattle.day_page.specs.Markup.{clock_text, markup, x_of, y_of}
use Rattle.day_page.specs.Rows.{AreByAccount, HaveAllOf}
use Rattle.day_page.specs.Stops.{stops}

-- ---- a stretch of a list, outside which nothing is told

nothing : {A : Type 0} (f : Point → List A) (xs : List Point) → ((i : ℕ) (d : Point) → i < length xs → f (get_or xs i d) ≡ []) → flat_map f xs ≡ []
nothing f [] h = refl
nothing {A} f (x ∷ xs) h =
    let first : f x ≡ [] = h zero x (omega arith) in
    ap (λ (text : List A). text ++ flat_map f xs) first ∙ nothing f xs (λ i d l. h (suc i) d (omega (arith, l)))

stretch : {A : Type 0} (f : Point → List A) (xs : List Point) (from count : ℕ) → ((i : ℕ) (d : Point) → i < from → i < length xs → f (get_or xs i d) ≡ []) → ((i : ℕ) (d : Point) → count ≤ i → i < length (drop from xs) → f (get_or (drop from xs) i d) ≡ []) → flat_map f (take count (drop from xs)) ≡ flat_map f xs
stretch {A} f xs from count before after =
    sym (append-nil (flat_map f (take count (drop from xs))))
    ∙ sym (ap (λ (text : List A). flat_map f (take count (drop from xs)) ++ text) last)
    ∙ sym (flat_map-append f (take count (drop from xs)) (drop count (drop from xs)))
    ∙ ap (flat_map f) (take-append-drop count (drop from xs))
    ∙ ap (λ (text : List A). text ++ flat_map f (drop from xs)) (sym first)
    ∙ sym (flat_map-append f (take from xs) (drop from xs))
    ∙ ap (flat_map f) (take-append-drop from xs)
  where
    first : flat_map f (take from xs) ≡ []
    first = nothing f (take from xs) (λ i d l.
        let size : length (take from xs) ≡ min from (length xs) = length-take from xs in
        let low : i < from = omega (arith, l, size) in
        let high : i < length xs = omega (arith, l, size) in
        ap f (get_or-take from xs i d low) ∙ before i d low high)

    last : flat_map f (drop count (drop from xs)) ≡ []
    last = nothing f (drop count (drop from xs)) (λ i d l.
        let size : length (drop count (drop from xs)) ≡ length (drop from xs) - count = length-drop count (drop from xs) in
        ap f (get_or-drop count (drop from xs) i d) ∙ after (count + i) d (omega arith) (omega (arith, l, size)))

-- the points between those of lower accounts and those of higher ones
pub have_all : (a from count : ℕ) (xs : List Point) → IsPartitionPoint (λ (p : Point). nat_lt p.account a ≡ true) (λ (p : Point). nat_lt p.account a ≡ false) xs from → IsPartitionPoint (λ (p : Point). nat_le p.account a ≡ true) (λ (p : Point). nat_le p.account a ≡ false) (drop from xs) count →
    HaveAllOf a xs (take count (drop from xs))
have_all a from count xs lower upper f other = stretch f xs from count
    (λ i d low high. let less = ltb-true _ a (lower.0 i d (omega arith) low) in other (get_or xs i d) (ne_eqb _ a (λ e. omega (arith, less, e))))
    (λ i d low high. let more = leb-false _ a (upper.1 i d low high) in other (get_or (drop from xs) i d) (ne_eqb _ a (λ e. omega (arith, more, e))))

-- ---- rows that rise

Rising : ℕ → List ℕ → Type 0
Rising b [] = ⊤
Rising b (n ∷ ns) = (b ≤ n) × Rising n ns

From : ℕ → List Point → Type 0
From b [] = ⊤
From b (p ∷ ps) = (b ≤ p.account) × From p.account ps

each_from : (b : ℕ) (ps : List Point) (i : ℕ) (d : Point) → From b ps → i < length ps → b ≤ (get_or ps i d).account
unfolding From
each_from b [] i d h l = absurd (omega (arith, l))
each_from b (p ∷ ps) zero d h l = h.0
each_from b (p ∷ ps) (suc i) d h l =
    let one : b ≤ p.account = h.0 in
    let rest : p.account ≤ (get_or ps i d).account = each_from p.account ps i d h.1 (omega (arith, l)) in
    omega (arith, one, rest)

by_account : (b : ℕ) (ps : List Point) → From b ps → AreByAccount ps
unfolding From
by_account b [] h i j d le l = absurd (omega (arith, l))
by_account b (p ∷ ps) h zero zero d le l = omega arith
by_account b (p ∷ ps) h zero (suc j) d le l = each_from p.account ps j d h.1 (omega (arith, l))
by_account b (p ∷ ps) h (suc i) zero d le l = absurd (omega (arith, le))
by_account b (p ∷ ps) h (suc i) (suc j) d le l = by_account p.account ps h.1 i j d (omega (arith, le)) (omega (arith, l))

-- the points of a row before those of higher ones
row_from : (day : Day) (members : List ℕ) (b n : ℕ) (Js : List History) (rest : List Point) → b ≤ n → ((c : ℕ) → c ≤ n → From c rest) → From b (map (point day members n) Js ++ rest)
unfolding From
row_from day members b n [] rest le later = later b le
row_from day members b n (J ∷ Js) rest le later = (le, row_from day members n n Js rest (omega arith) later)

rows_from : (day : Day) (accounts : List ℕ) (J : History) (b c : ℕ) (ns : List ℕ) → Rising b ns → c ≤ b → From c (flat_map (series day accounts J) ns)
unfolding From Rising
rows_from day accounts J b c [] h le = tt
rows_from day accounts J b c (n ∷ ns) h le =
    let low : b ≤ n = h.0 in
    row_from day (members accounts n) c n (stops J) (flat_map (series day accounts J) ns) (omega (arith, low, le)) (λ k l. rows_from day accounts J n k ns h.1 l)

taken : (b k : ℕ) (ns : List ℕ) → Rising b ns → Rising b (take k ns)
unfolding Rising
taken b zero ns h = tt
taken b (suc k) [] h = tt
taken b (suc k) (n ∷ ns) h = (h.0, taken n k ns h.1)

-- of accounts by their numbers those that are shown
shown_rise : (day : Day) (r : Request) (J : History) (most : ℕ) (all : List Mover) (b s len : ℕ) → b ≤ s → Rising b (flat_map (shown_part most all) (map (mover day r J) (range_with_len s len)))
unfolding Rising
shown_rise day r J most all b s zero le = tt
shown_rise day r J most all b s (suc len) le = here (is_shown most all (mover day r J s)) (shown_rise day r J most all s (s + 1) len (omega arith)) (shown_rise day r J most all b (s + 1) len (omega (arith, le)))
  where
    rest : List ℕ
    rest = flat_map (shown_part most all) (map (mover day r J) (range_with_len (s + 1) len))

    here : (t : Bool) → Rising s rest → Rising b rest → Rising b ((if t then s ∷ [] else []) ++ rest)
    here true later other = (le, later)
    here false later other = other

accounts_rise : (day : Day) (r : Request) (J : History) → Rising 0 (shown day r J)
accounts_rise day r J = taken 0 _ _ (shown_rise day r J _ (movers day r J) 0 1 (length day.accounts) (omega arith))

rows_rise : (ns : List ℕ) → Rising 0 ns → Rising 0 (rows ns)
unfolding Rising
rows_rise [] h = tt
rows_rise (a ∷ ns) h = (omega arith, h)

pub points_by_account : (day : Day) (r : Request) (J : History) → AreByAccount (all_points day (shown day r J) J)
points_by_account day r J = by_account 0 _ (rows_from day (shown day r J) J 0 0 (rows (shown day r J)) (rows_rise (shown day r J) (accounts_rise day r J)) (omega arith))

-- ---- the text of a row by its own points

pub same_course : (day : Day) (all own : List Point) (c : Course) → HaveAllOf c.account all own → course_text day own c ≡ course_text day all c
unfolding course_text course_figures point_step point_row
same_course day all own c have =
    let path : course_path own c ≡ course_path all c = have (point_step c) (λ p e. ap (λ (b : Bool). if b then step_text (x_of p.clock) (y_of c.highest p.cents) else []) e) in
    let table : course_rows own c ≡ course_rows all c = have (point_row c) (λ p e. ap (λ (b : Bool). if b then markup (codes "<tr><th scope='row'>" ∷ clock_text p.clock ∷ codes "</th><td>" ∷ amount_text p.cents ∷ codes "</td></tr>\n" ∷ []) else []) e) in
    λ i. course_head day c ++ (path i ++ (course_table day c ++ (table i ++ table_tail)))
