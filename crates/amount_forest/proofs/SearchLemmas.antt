-- The first place that fits.
use Rattle.std.proofs.Common.{◌≡◌, ◌≢◌, ℕ, ◌+◌, ◌<◌, ◌≤◌, Bool, true, false, cond, List, Option, None, Some, IfSome, length, refl, ap, sym, ◌∙◌, subst, ⊎_elim, arith}
use Rattle.std.proofs.lemmas.Bool.{cases_lt, lt-ltb, le-ltb, false≢true}
use Rattle.std.proofs.lemmas.List.{get_or_past}
use Rattle.least_tree.specs.Amounts.{amount_at, fits, fits_at}
use Rattle.number_set.specs.Next.{IsLeast, IsNext}
use Rattle.amount_forest.specs.declared.node.Entry.{Entry}
use Rattle.amount_forest.specs.declared.node.Link.{Link}
use Rattle.amount_forest.specs.declared.search.Turn.{Turn}
use Rattle.amount_forest.specs.declared.search.Turn.TheVariants.{Nowhere, At, Under}
use Rattle.amount_forest.specs.Lists.{amounts_of}
use Rattle.amount_forest.specs.Nodes.{list_of, amount_of, place_of, start_of, prev_of, jump_of, second_of, link_at, LeadsTo, IsLinked, IsPool}
use Rattle.amount_forest.specs.Searches.{fits_in, NoneFits, IsUnder, LeadsOn, reach, before}
use Rattle.amount_forest.proofs.NodeLemmas.{amount_is, first_leads, second_leads, inner_least, leaf_least, fits_first, none_under}

-- whether the amount of a node fits is whether its place does
pub own_fits : (es : List Entry) (ks : List Link) (most i list : ℕ) → IsLinked es ks → i < length es → list_of es i ≡ list → fits_in es list most (place_of ks i) ≡ fits most (amount_of es i)
own_fits es ks most i list s within is = ap (λ (l : ℕ). fits_in es l most (place_of ks i)) (sym is) ∙ ap (fits most) (amount_is es ks i s within)

pub none_past : (es : List Entry) (list most k : ℕ) → length (amounts_of list es) ≤ k → fits_in es list most k ≡ false
none_past es list most k past = ap (fits most) (get_or_past (amounts_of list es) k None past)

-- places that don't fit in front of those that are known
pub widen : (es : List Entry) (ks : List Link) (ms : List (Option ℕ)) (list most from to : ℕ) (turn : Turn) → from ≤ to → NoneFits es list most from to → LeadsOn es ks ms list most to turn → LeadsOn es ks ms list most from turn
widen es ks ms list most from to Nowhere order none leads =
    λ k after. ⊎_elim (λ (h : k < to). none k after h) (λ (h : to ≤ k). leads k h) (cases_lt k to)
widen es ks ms list most from to (At p) order none leads =
    let low : to ≤ p = leads.at_least in
    record {
      at_least = omega arith;
      passes = leads.passes;
      none_before = λ k after less. ⊎_elim (λ (h : k < to). none k after h) (λ (h : to ≤ k). leads.none_before k h less) (cases_lt k to);
    }
widen es ks ms list most from to (Under i) order none leads =
    let low : to ≤ start_of ks i = leads.behind in
    record {
      within = leads.within;
      of_list = leads.of_list;
      passes = leads.passes;
      behind = omega arith;
      none_before = λ k after less. ⊎_elim (λ (h : k < to). none k after h) (λ (h : to ≤ k). leads.none_before k h less) (cases_lt k to);
    }

pub reach_own : (link : Link) (from : ℕ) → link.start < from → reach link from ≡ link.place
reach_own link from h = ap (λ (b : Bool). cond b link.place link.start) (lt-ltb link.start from h)

pub reach_all : (link : Link) (from : ℕ) → from ≤ link.start → reach link from ≡ link.start
reach_all link from h = ap (λ (b : Bool). cond b link.place link.start) (le-ltb link.start from h)

before_own : (link : Link) (from : ℕ) → link.start < from → before link from ≡ link.prev
before_own link from h = ap (λ (b : Bool). cond b link.prev link.jump) (lt-ltb link.start from h)

before_all : (link : Link) (from : ℕ) → from ≤ link.start → before link from ≡ link.jump
before_all link from h = ap (λ (b : Bool). cond b link.prev link.jump) (le-ltb link.start from h)

-- a node alone whose amount fits
pub turn_here : (es : List Entry) (ks : List Link) (ms : List (Option ℕ)) (most i from : ℕ) → IsPool es ks ms → i < length es → start_of ks i < from → fits most (amount_of es i) ≡ true → LeadsOn es ks ms (list_of es i) most (reach (link_at ks i) from) (At (place_of ks i))
turn_here es ks ms most i from pool within h passes =
    subst (λ (n : ℕ). LeadsOn es ks ms (list_of es i) most n (At (place_of ks i))) (sym (reach_own (link_at ks i) from h)) (record {
      at_least = omega arith;
      passes = own_fits es ks most i (list_of es i) pool.linked within refl ∙ passes;
      none_before = λ k after less. absurd (omega arith);
    })

-- a node alone whose amount doesn't fit
pub turn_past : (es : List Entry) (ks : List Link) (ms : List (Option ℕ)) (most i from : ℕ) (turn : Turn) → IsPool es ks ms → i < length es → start_of ks i < from → fits most (amount_of es i) ≡ false → LeadsOn es ks ms (list_of es i) most (place_of ks i + 1) turn → LeadsOn es ks ms (list_of es i) most (reach (link_at ks i) from) turn
turn_past es ks ms most i from turn pool within h fails leads =
    subst (λ (n : ℕ). LeadsOn es ks ms (list_of es i) most n turn) (sym (reach_own (link_at ks i) from h))
    (widen es ks ms (list_of es i) most (place_of ks i) (place_of ks i + 1) turn (omega arith) (λ k after less.
    let is : k ≡ place_of ks i = omega arith in
    ap (fits_in es (list_of es i) most) is ∙ (own_fits es ks most i (list_of es i) pool.linked within refl ∙ fails)) leads)

-- all that a node stands over, and its least amount fits
pub turn_under : (es : List Entry) (ks : List Link) (ms : List (Option ℕ)) (most i from : ℕ) → i < length es → from ≤ start_of ks i → fits most (amount_at ms i) ≡ true → LeadsOn es ks ms (list_of es i) most (reach (link_at ks i) from) (Under i)
turn_under es ks ms most i from within h passes =
    subst (λ (n : ℕ). LeadsOn es ks ms (list_of es i) most n (Under i)) (sym (reach_all (link_at ks i) from h)) (record {
      within = within;
      of_list = refl;
      passes = passes;
      behind = omega arith;
      none_before = λ k after less. absurd (omega arith);
    })

-- and doesn't fit
pub turn_over : (es : List Entry) (ks : List Link) (ms : List (Option ℕ)) (most i from : ℕ) (turn : Turn) → IsPool es ks ms → i < length es → from ≤ start_of ks i → fits most (amount_at ms i) ≡ false → LeadsOn es ks ms (list_of es i) most (place_of ks i + 1) turn → LeadsOn es ks ms (list_of es i) most (reach (link_at ks i) from) turn
turn_over es ks ms most i from turn pool within h fails leads =
    let start : start_of ks i ≤ place_of ks i = pool.linked.start i within in
    subst (λ (n : ℕ). LeadsOn es ks ms (list_of es i) most n turn) (sym (reach_all (link_at ks i) from h))
    (widen es ks ms (list_of es i) most (start_of ks i) (place_of ks i + 1) turn (omega arith) (none_under es ks ms most i pool within fails) leads)

-- the node before one that is not the last of a search
pub goes_on : (es : List Entry) (ks : List Link) (i from : ℕ) → IsLinked es ks → i < length es → from ≤ place_of ks i → reach (link_at ks i) from ≢ from → LeadsTo es ks i (before (link_at ks i) from) (reach (link_at ks i) from) × (from < reach (link_at ks i) from)
goes_on es ks i from s within low other =
    ⊎_elim
    (λ (h : start_of ks i < from).
    let is : reach (link_at ks i) from ≡ place_of ks i = reach_own (link_at ks i) from h in
    let ne : place_of ks i ≢ from = λ e. other (is ∙ e) in
    let leads : LeadsTo es ks i (prev_of ks i) (place_of ks i) = s.prev i within (omega arith) in (
      subst (λ (n : ℕ). LeadsTo es ks i (before (link_at ks i) from) n) (sym is) (subst (λ (n : ℕ). LeadsTo es ks i n (place_of ks i)) (sym (before_own (link_at ks i) from h)) leads),
      omega (arith, ne),
    ))
    (λ (h : from ≤ start_of ks i).
    let is : reach (link_at ks i) from ≡ start_of ks i = reach_all (link_at ks i) from h in
    let ne : start_of ks i ≢ from = λ e. other (is ∙ e) in
    let leads : LeadsTo es ks i (jump_of ks i) (start_of ks i) = s.jump i within (omega (arith, ne)) in (
      subst (λ (n : ℕ). LeadsTo es ks i (before (link_at ks i) from) n) (sym is) (subst (λ (n : ℕ). LeadsTo es ks i n (start_of ks i)) (sym (before_all (link_at ks i) from h)) leads),
      omega (arith, ne),
    ))
    (cases_lt (start_of ks i) from)

-- of the nodes under one that fits the second fits
pub down_second : (es : List Entry) (ks : List Link) (ms : List (Option ℕ)) (list most from i : ℕ) → IsPool es ks ms → IsUnder es ks ms list most from i → start_of ks i < place_of ks i → fits most (amount_at ms (second_of ks i)) ≡ true → IsUnder es ks ms list most from (second_of ks i)
down_second es ks ms list most from i pool u inner passes =
    let s : IsLinked es ks = pool.linked in
    let first = first_leads es ks i s u.within inner in
    let second = second_leads es ks i s u.within inner in
    let first_earlier : prev_of ks i < i = first.earlier in
    let second_earlier : second_of ks i < prev_of ks i = second.earlier in
    let within : i < length es = u.within in
    let low : from ≤ start_of ks i = u.behind in
    let start : start_of ks (second_of ks i) ≡ start_of ks i = (s.two i within inner).second in
    record {
      within = omega arith;
      of_list = second.same_list ∙ (first.same_list ∙ u.of_list);
      passes = passes;
      behind = omega arith;
      none_before = λ k after less. u.none_before k after (omega arith);
    }

-- the places of the second one don't fit
before_first : (es : List Entry) (ks : List Link) (ms : List (Option ℕ)) (list most from i : ℕ) → IsPool es ks ms → IsUnder es ks ms list most from i → start_of ks i < place_of ks i → fits most (amount_at ms (second_of ks i)) ≡ false → NoneFits es list most from (start_of ks (prev_of ks i))
before_first es ks ms list most from i pool u inner fails k after less =
    let s : IsLinked es ks = pool.linked in
    let first = first_leads es ks i s u.within inner in
    let second = second_leads es ks i s u.within inner in
    let first_earlier : prev_of ks i < i = first.earlier in
    let second_earlier : second_of ks i < prev_of ks i = second.earlier in
    let within : i < length es = u.within in
    let start : start_of ks (second_of ks i) ≡ start_of ks i = (s.two i within inner).second in
    let next : place_of ks (second_of ks i) + 1 ≡ start_of ks (prev_of ks i) = second.next in
    ⊎_elim
    (λ (h : k < start_of ks i). u.none_before k after h)
    (λ (h : start_of ks i ≤ k).
    ap (λ (l : ℕ). fits_in es l most k) (sym (second.same_list ∙ (first.same_list ∙ u.of_list)))
    ∙ none_under es ks ms most (second_of ks i) pool (omega arith) fails k (omega arith) (omega arith))
    (cases_lt k (start_of ks i))

-- the first does
pub down_first : (es : List Entry) (ks : List Link) (ms : List (Option ℕ)) (list most from i : ℕ) → IsPool es ks ms → IsUnder es ks ms list most from i → start_of ks i < place_of ks i → fits most (amount_at ms (second_of ks i)) ≡ false → fits most (amount_at ms (prev_of ks i)) ≡ true → IsUnder es ks ms list most from (prev_of ks i)
down_first es ks ms list most from i pool u inner fails passes =
    let s : IsLinked es ks = pool.linked in
    let first = first_leads es ks i s u.within inner in
    let second = second_leads es ks i s u.within inner in
    let first_earlier : prev_of ks i < i = first.earlier in
    let second_earlier : second_of ks i < prev_of ks i = second.earlier in
    let within : i < length es = u.within in
    let low : from ≤ start_of ks i = u.behind in
    let start : start_of ks (second_of ks i) ≡ start_of ks i = (s.two i within inner).second in
    let next : place_of ks (second_of ks i) + 1 ≡ start_of ks (prev_of ks i) = second.next in
    let order : start_of ks (second_of ks i) ≤ place_of ks (second_of ks i) = s.start (second_of ks i) (omega arith) in
    record {
      within = omega arith;
      of_list = first.same_list ∙ u.of_list;
      passes = passes;
      behind = omega arith;
      none_before = before_first es ks ms list most from i pool u inner fails;
    }

-- neither does
pub neither : (es : List Entry) (ks : List Link) (ms : List (Option ℕ)) (list most from i : ℕ) → IsPool es ks ms → IsUnder es ks ms list most from i → start_of ks i < place_of ks i → fits most (amount_at ms (second_of ks i)) ≡ false → fits most (amount_at ms (prev_of ks i)) ≡ false → IsLeast (fits_in es list most) from (place_of ks i)
neither es ks ms list most from i pool u inner fails other =
    let s : IsLinked es ks = pool.linked in
    let first = first_leads es ks i s u.within inner in
    let earlier : prev_of ks i < i = first.earlier in
    let within : i < length es = u.within in
    let low : from ≤ start_of ks i = u.behind in
    let next : place_of ks (prev_of ks i) + 1 ≡ place_of ks i = first.next in
    record {
      at_least = omega arith;
      passes =
          own_fits es ks most i list s within u.of_list
          ∙ fits_first most (amount_of es i) (amount_at ms (prev_of ks i)) (amount_at ms (second_of ks i))
          (ap (fits most) (sym (pool.mended i within ∙ inner_least es ks ms i inner)) ∙ u.passes) other fails;
      none_before = λ k after less.
          ⊎_elim
          (λ (h : k < start_of ks (prev_of ks i)). before_first es ks ms list most from i pool u inner fails k after h)
          (λ (h : start_of ks (prev_of ks i) ≤ k).
          ap (λ (l : ℕ). fits_in es l most k) (sym (first.same_list ∙ u.of_list)) ∙ none_under es ks ms most (prev_of ks i) pool (omega arith) other k h (omega arith))
          (cases_lt k (start_of ks (prev_of ks i)));
    }

-- a node that has no others
pub alone : (es : List Entry) (ks : List Link) (ms : List (Option ℕ)) (list most from i : ℕ) → IsPool es ks ms → IsUnder es ks ms list most from i → place_of ks i ≤ start_of ks i → IsLeast (fits_in es list most) from (place_of ks i)
alone es ks ms list most from i pool u leaf =
    let s : IsLinked es ks = pool.linked in
    let within : i < length es = u.within in
    let start : start_of ks i ≤ place_of ks i = s.start i within in
    let low : from ≤ start_of ks i = u.behind in
    record {
      at_least = omega arith;
      passes = own_fits es ks most i list s within u.of_list ∙ (ap (fits most) (sym (pool.mended i within ∙ leaf_least es ks ms i (omega arith))) ∙ u.passes);
      none_before = λ k after less. u.none_before k after (omega arith);
    }

-- a place that fits is one of the places
pub next_within : (xs : List (Option ℕ)) (most from : ℕ) (found : Option ℕ) → IsNext (fits_at xs most) from found → IfSome found (λ p. p < length xs)
next_within xs most from None next = tt
next_within xs most from (Some p) next =
    ⊎_elim
    (λ (h : p < length xs). h)
    (λ (h : length xs ≤ p). absurd (false≢true (sym (ap (fits most) (get_or_past xs p None h)) ∙ next.passes)))
    (cases_lt p (length xs))
