-- Where a text stands to one that it is compared with.
use Rattle.std.proofs.Common.{◌≡◌, ◌∙◌, ◌+◌, ◌≤◌, ◌<◌, ◌++◌, ℕ, suc, Bool, true, false, not, List, [], ◌∷◌, append-nil, append_assoc, length, length-append, Option, None, Some, drop, take, get_or, refl, sym, ap, subst, arith, inl, inr}
use Rattle.std.specs.Prelude.{◌&&◌, ◌==◌, if◌then◌else◌, nat_eq}
use Rattle.std.specs.List.{starts_with}
use Rattle.std.proofs.KnownBytes.{Appends-nil, Appends-trans}
use Rattle.std.proofs.lemmas.Bool.{eq-eqb, ne_eqb}
use Rattle.std.proofs.lemmas.Bool.Decides.{Decides-eqb, eqb_tells}
use Rattle.std.proofs.lemmas.List.{drop-append-le}
use Rattle.std.proofs.lemmas.List.Sums.{sum_by-cons}
use Rattle.std.proofs.lemmas.Slice.Eq.{starts_is}
use Rattle.std.specs.Io.KnownBytes.{Appends}
use Rattle.live_day.specs.Comparing.{beyond, common, differ, differing_line, lines_in, next_place}
use Rattle.live_day.specs.Resumed.{other_line}

eq_next : (a b : ℕ) → nat_eq (a + 1) (suc b) ≡ nat_eq a b
eq_next a b = elim (eqb_tells a b) [
  | inl same ↦ eq-eqb (a + 1) (suc b) (let e = same.1 in omega (arith, e)) ∙ sym same.0
  | inr other ↦ ne_eqb (a + 1) (suc b) (λ e. other.1 (omega (arith, e))) ∙ sym other.0
]

pub start_is : (wanted text : List ℕ) → starts_with nat_eq text wanted ≡ (not (differ wanted text) && nat_eq (common wanted text) (length wanted))
unfolding common differ
start_is [] text = refl
start_is (b ∷ wanted) [] = sym (ne_eqb 0 (suc (length wanted)) (λ e. omega (arith, e)))
start_is (b ∷ wanted) (c ∷ text) = by (b == c) (start_is wanted text)
  where
    by : (x : Bool) → starts_with nat_eq text wanted ≡ (not (differ wanted text) && nat_eq (common wanted text) (length wanted))
        → (x && starts_with nat_eq text wanted) ≡ (not (if x then differ wanted text else true) && nat_eq (if x then common wanted text + 1 else 0) (suc (length wanted)))
    by true rest = rest ∙ ap (λ (x : Bool). not (differ wanted text) && x) (sym (eq_next (common wanted text) (length wanted)))
    by false rest = refl

-- ---- one byte more, or several

-- after a byte that differs nothing counts
pub differ_stays : (wanted text more : List ℕ) → differ wanted text ≡ true → (common wanted (text ++ more) ≡ common wanted text) × (differ wanted (text ++ more) ≡ true)
unfolding common differ
differ_stays [] text more e = cc e
differ_stays (b ∷ wanted) [] more e = cc e
differ_stays (b ∷ wanted) (c ∷ text) more e = by (b == c) (differ_stays wanted text more) e
  where
    by : (x : Bool) → (differ wanted text ≡ true → (common wanted (text ++ more) ≡ common wanted text) × (differ wanted (text ++ more) ≡ true))
        → (if x then differ wanted text else true) ≡ true → ((if x then common wanted (text ++ more) + 1 else 0) ≡ (if x then common wanted text + 1 else 0)) × ((if x then differ wanted (text ++ more) else true) ≡ true)
    by true further d = let rest = further d in (ap (λ n. n + 1) rest.0, rest.1)
    by false further d = (refl, refl)

-- nor after the whole
pub whole_stays : (wanted text more : List ℕ) → starts_with nat_eq text wanted ≡ true → (common wanted (text ++ more) ≡ length wanted) × (differ wanted (text ++ more) ≡ false)
unfolding common differ
whole_stays [] text more e = (refl, refl)
whole_stays (b ∷ wanted) [] more e = cc e
whole_stays (b ∷ wanted) (c ∷ text) more e = by (b == c) (whole_stays wanted text more) e
  where
    by : (x : Bool) → (starts_with nat_eq text wanted ≡ true → (common wanted (text ++ more) ≡ length wanted) × (differ wanted (text ++ more) ≡ false))
        → (x && starts_with nat_eq text wanted) ≡ true → ((if x then common wanted (text ++ more) + 1 else 0) ≡ suc (length wanted)) × ((if x then differ wanted (text ++ more) else true) ≡ false)
    by true further d = let rest = further d in (omega (arith, rest.0), rest.1)
    by false further d = cc d

-- before that each byte counts
pub place_inside : (wanted text : List ℕ) → starts_with nat_eq text wanted ≡ false → differ wanted text ≡ false → common wanted text < length wanted
unfolding common differ
place_inside [] text e d = cc e
place_inside (b ∷ wanted) [] e d = omega arith
place_inside (b ∷ wanted) (c ∷ text) e d = by (b == c) (place_inside wanted text) e d
  where
    by : (x : Bool) → (starts_with nat_eq text wanted ≡ false → differ wanted text ≡ false → common wanted text < length wanted)
        → (x && starts_with nat_eq text wanted) ≡ false → (if x then differ wanted text else true) ≡ false → (if x then common wanted text + 1 else 0) < suc (length wanted)
    by true further h f = let rest = further h f in omega (arith, rest)
    by false further h f = cc f

abbrev place_by : ℕ → Bool → Bool → ℕ × Bool
place_by at d y = if d then (at, true) else if y then (at + 1, false) else (at, true)

abbrev further_on : ℕ × Bool → ℕ × Bool
further_on q = (q.0 + 1, q.1)

shift_place : (at : ℕ) (d y : Bool) → place_by (at + 1) d y ≡ further_on (place_by at d y)
shift_place at true y = refl
shift_place at false true = refl
shift_place at false false = refl

pub none_common : (wanted : List ℕ) → common wanted [] ≡ 0
unfolding common
none_common [] = refl
none_common (b ∷ wanted) = refl

pub none_differ : (wanted : List ℕ) → differ wanted [] ≡ false
unfolding differ
none_differ [] = refl
none_differ (b ∷ wanted) = refl

abbrev place_of : List ℕ → List ℕ → ℕ × Bool
place_of wanted text = (common wanted text, differ wanted text)

pub one_more_place : (wanted text : List ℕ) (x : ℕ) → starts_with nat_eq text wanted ≡ false → next_place wanted (common wanted text) (differ wanted text) x ≡ place_of wanted (text ++ x ∷ [])
unfolding common differ
one_more_place [] text x e = cc e
one_more_place (b ∷ wanted) [] x e = by (b == x)
  where
    by : (y : Bool) → place_by 0 false y ≡ ((if y then common wanted [] + 1 else 0), (if y then differ wanted [] else true))
    by true = λ i. (sym (none_common wanted) i + 1, sym (none_differ wanted) i)
    by false = refl
one_more_place (b ∷ wanted) (c ∷ text) x e = by (b == c) (one_more_place wanted text x) e
  where
    next_item : (n : ℕ) → get_or (b ∷ wanted) (n + 1) 0 ≡ get_or wanted n 0
    next_item n = let e : n + 1 ≡ suc n = omega arith in ap (λ (m : ℕ). get_or (b ∷ wanted) m 0) e

    by : (y : Bool) → (starts_with nat_eq text wanted ≡ false → next_place wanted (common wanted text) (differ wanted text) x ≡ place_of wanted (text ++ x ∷ [])) → (y && starts_with nat_eq text wanted) ≡ false →
        next_place (b ∷ wanted) (if y then common wanted text + 1 else 0) (if y then differ wanted text else true) x ≡ ((if y then common wanted (text ++ x ∷ []) + 1 else 0), (if y then differ wanted (text ++ x ∷ []) else true))
    by true further h =
        ap (λ (z : ℕ). place_by (common wanted text + 1) (differ wanted text) (z == x)) (next_item (common wanted text))
        ∙ shift_place (common wanted text) (differ wanted text) (get_or wanted (common wanted text) 0 == x) ∙ ap further_on (further h)
    by false further h = refl

-- ---- what goes beyond

own_parts : (wanted text : List ℕ) → starts_with nat_eq text wanted ≡ true → text ≡ wanted ++ drop (length wanted) text
own_parts wanted text e = (starts_is Decides-eqb text wanted (starts_with nat_eq text wanted) refl).0 e

pub goes_beyond : (wanted text : List ℕ) → starts_with nat_eq text wanted ≡ true → beyond wanted text ≡ drop (length wanted) text
goes_beyond wanted text e = ap (λ (x : Bool). if x then drop (length wanted) text else []) e

pub not_beyond : (wanted text : List ℕ) → starts_with nat_eq text wanted ≡ false → beyond wanted text ≡ []
not_beyond wanted text e = ap (λ (x : Bool). if x then drop (length wanted) text else []) e

pub still_starts : (wanted text more : List ℕ) → starts_with nat_eq text wanted ≡ true → starts_with nat_eq (text ++ more) wanted ≡ true
still_starts wanted text more e =
    (starts_is Decides-eqb (text ++ more) wanted (starts_with nat_eq (text ++ more) wanted) refl).1 (drop (length wanted) text ++ more)
    (ap (λ (t : List ℕ). t ++ more) (own_parts wanted text e) ∙ append_assoc wanted (drop (length wanted) text) more)

pub wanted_short : (wanted text : List ℕ) → starts_with nat_eq text wanted ≡ true → length wanted ≤ length text
wanted_short wanted text e =
    let parts = ap (length {A = ℕ}) (own_parts wanted text e) in
    let sum = length-append wanted (drop (length wanted) text) in
    omega (arith, parts, sum)

pub beyond_more : (wanted text more : List ℕ) → starts_with nat_eq text wanted ≡ true → beyond wanted (text ++ more) ≡ beyond wanted text ++ more
beyond_more wanted text more e =
    goes_beyond wanted (text ++ more) (still_starts wanted text more e)
    ∙ drop-append-le (length wanted) text more (wanted_short wanted text e)
    ∙ ap (λ (t : List ℕ). t ++ more) (sym (goes_beyond wanted text e))

-- a byte that the text was still short of
pub beyond_none : (wanted text : List ℕ) (x : ℕ) → starts_with nat_eq text wanted ≡ false → beyond wanted (text ++ x ∷ []) ≡ []
beyond_none [] text x e = cc e
beyond_none (b ∷ wanted) [] x e = by (b == x) wanted
  where
    by : (y : Bool) (w : List ℕ) → (if y && starts_with nat_eq [] w then drop {A = ℕ} (length w) [] else []) ≡ []
    by true [] = refl
    by true (z ∷ zs) = refl
    by false w = refl
beyond_none (b ∷ wanted) (c ∷ text) x e = by (b == c) (beyond_none wanted text x) e
  where
    by : (y : Bool) → (starts_with nat_eq text wanted ≡ false → beyond wanted (text ++ x ∷ []) ≡ []) → (y && starts_with nat_eq text wanted) ≡ false → (if y && starts_with nat_eq (text ++ x ∷ []) wanted then drop (length wanted) (text ++ x ∷ []) else []) ≡ []
    by true further h = further h
    by false further h = refl

-- ---- by the place

pub stands_short : (text wanted : List ℕ) → differ wanted text ≡ true → false ≡ starts_with nat_eq text wanted
stands_short text wanted d = sym (start_is wanted text ∙ ap (λ (x : Bool). not x && nat_eq (common wanted text) (length wanted)) d)

pub stands_beyond : (text wanted : List ℕ) (at : ℕ) → at ≡ common wanted text → differ wanted text ≡ false → nat_eq at (length wanted) ≡ starts_with nat_eq text wanted
stands_beyond text wanted at e d = ap (λ (n : ℕ). nat_eq n (length wanted)) e ∙ sym (start_is wanted text ∙ ap (λ (x : Bool). not x && nat_eq (common wanted text) (length wanted)) d)

pub none_beyond : (wanted : List ℕ) → beyond wanted [] ≡ []
none_beyond [] = refl
none_beyond (b ∷ wanted) = refl

pub none_handed : (first now : Option (List ℕ)) (wanted text : List ℕ) → first ≡ now → text ≡ [] → Appends first now (beyond wanted text)
none_handed first now wanted text e empty =
    subst (λ (o : Option (List ℕ)). Appends first o (beyond wanted text)) e (subst (Appends first first) (sym (ap (beyond wanted) empty ∙ none_beyond wanted)) (Appends-nil first))

-- by one byte more that isn't beyond
pub place_more : (wanted text new : List ℕ) (at : ℕ) (d : Bool) (x : ℕ) (r : ℕ × Bool) → at ≡ common wanted text → d ≡ differ wanted text → starts_with nat_eq text wanted ≡ false → new ≡ text ++ x ∷ []
    → r ≡ next_place wanted at d x → r ≡ place_of wanted new
place_more wanted text new at d x r at_is d_is short grown is =
    is ∙ (λ i. next_place wanted (at_is i) (d_is i) x) ∙ one_more_place wanted text x short ∙ ap (place_of wanted) (sym grown)

pub still_handed : (first now : Option (List ℕ)) (wanted text new : List ℕ) (x : ℕ) → starts_with nat_eq text wanted ≡ false → new ≡ text ++ x ∷ [] → Appends first now (beyond wanted text) → Appends first now (beyond wanted new)
still_handed first now wanted text new x short grown so_far =
    subst (Appends first now) (not_beyond wanted text short ∙ sym (beyond_none wanted text x short) ∙ ap (beyond wanted) (sym grown)) so_far

pub before_beyond : (wanted text : List ℕ) (at : ℕ) (d : Bool) → at ≡ common wanted text → d ≡ differ wanted text → starts_with nat_eq text wanted ≡ false → d ≡ false → at < length wanted
before_beyond wanted text at d at_is d_is short e = let inside = place_inside wanted text short (sym d_is ∙ e) in omega (arith, inside, at_is)

-- ---- by a piece that is beyond

pub whole_now : (wanted text : List ℕ) → starts_with nat_eq text wanted ≡ true → (common wanted text ≡ length wanted) × (differ wanted text ≡ false)
whole_now wanted text e = subst (λ (t : List ℕ). (common wanted t ≡ length wanted) × (differ wanted t ≡ false)) (append-nil text) (whole_stays wanted text [] e)

pub place_stays : (wanted text new more : List ℕ) → starts_with nat_eq text wanted ≡ true → new ≡ text ++ more → (common wanted text ≡ common wanted new) × (differ wanted text ≡ differ wanted new)
place_stays wanted text new more e grown =
    let now = whole_now wanted text e in
    let later = whole_stays wanted text more e in
    (now.0 ∙ sym later.0 ∙ ap (common wanted) (sym grown), now.1 ∙ sym later.1 ∙ ap (differ wanted) (sym grown))

pub handed_more : (first mid now : Option (List ℕ)) (wanted text new more : List ℕ) → starts_with nat_eq text wanted ≡ true → new ≡ text ++ more → Appends first mid (beyond wanted text) → Appends mid now more → Appends first now (beyond wanted new)
handed_more first mid now wanted text new more e grown so_far put =
    subst (Appends first now) (sym (ap (beyond wanted) grown ∙ beyond_more wanted text more e)) (Appends-trans first mid now (beyond wanted text) more so_far put)

-- ---- the line

add_lines : (b : ℕ) (wanted : List ℕ) → lines_in (b ∷ wanted) ≡ (if b == 10 then 1 else 0) + lines_in wanted
add_lines b wanted = sum_by-cons (λ (x : ℕ). if x == 10 then 1 else 0) b wanted

pub other_line_at : (wanted text : List ℕ) → other_line wanted text ≡ lines_in (take (common wanted text) wanted) + 1
unfolding common other_line
other_line_at [] text = refl
other_line_at (b ∷ wanted) [] = refl
other_line_at (b ∷ wanted) (c ∷ text) = by (b == c) (other_line_at wanted text)
  where
    by : (x : Bool) → other_line wanted text ≡ lines_in (take (common wanted text) wanted) + 1
        → (if x then (if b == 10 then 1 else 0) + other_line wanted text else 1) ≡ lines_in (take (if x then common wanted text + 1 else 0) (b ∷ wanted)) + 1
    by true further =
        let item : take (common wanted text + 1) (b ∷ wanted) ≡ b ∷ take (common wanted text) wanted = (let e : common wanted text + 1 ≡ suc (common wanted text) = omega arith in ap (λ (n : ℕ). take n (b ∷ wanted)) e) in
        let more = add_lines b (take (common wanted text) wanted) in
        let whole = ap lines_in item in
        omega (arith, further, more, whole)
    by false further = refl

pub common_inside : (wanted text : List ℕ) → common wanted text ≤ length wanted
unfolding common
common_inside [] text = omega arith
common_inside (b ∷ wanted) [] = omega arith
common_inside (b ∷ wanted) (c ∷ text) = by (b == c) (common_inside wanted text)
  where
    by : (x : Bool) → common wanted text ≤ length wanted → (if x then common wanted text + 1 else 0) ≤ suc (length wanted)
    by true further = omega (arith, further)
    by false further = omega arith

pub differing_at : (wanted text : List ℕ) (at line : ℕ) → at ≡ common wanted text → starts_with nat_eq text wanted ≡ false → line ≡ lines_in (take at wanted) → Some (line + 1) ≡ differing_line wanted text
differing_at wanted text at line at_is short is =
    ap (λ (n : ℕ). Some (n + 1)) (is ∙ ap (λ (n : ℕ). lines_in (take n wanted)) at_is)
    ∙ ap Some (sym (other_line_at wanted text))
    ∙ sym (ap (λ (x : Bool). if x then None else Some (other_line wanted text)) short)
