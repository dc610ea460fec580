-- The nodes that can come next in a list.
use Rattle.std.proofs.Common.{◌≡◌, ◌≢◌, ℕ, ◌+◌, ◌<◌, ◌≤◌, List, length, refl, ap, sym, ◌∙◌, subst, inl, inr, ⊎_elim, arith, get_or-set_same, get_or-set_other}
use Rattle.std.proofs.lemmas.Bool.{cases_lt, cases_eq}
use Rattle.std.proofs.lemmas.List.{length-set}
use Rattle.amount_forest.specs.declared.node.Entry.{Entry}
use Rattle.amount_forest.specs.declared.node.Link.{Link}
use Rattle.amount_forest.specs.declared.node.TheConstants.{NONE}
use Rattle.amount_forest.specs.Lists.{amounts_of}
use Rattle.amount_forest.specs.Nodes.{link_at, list_of, place_of, start_of, prev_of, jump_of, up_of, second_of, raised, LeadsTo, IsLinked, IsEnd, IsKept, IsFree, IsNew, Precedes}
use Rattle.amount_forest.proofs.NodeLemmas.{place_within, first_leads, second_leads}

abbrev pub no_link : Link
no_link = record { place = 0; start = 0; prev = 0; jump = 0; up = 0 }

-- the next place of a list, by its last node
abbrev pub link_over : ℕ → ℕ → ℕ → ℕ → Link
link_over place start prev jump = record { place = place; start = start; prev = prev; jump = jump; up = NONE }

pub new_first : (es : List Entry) (ks : List Link) (list : ℕ) → length (amounts_of list es) ≡ 0 → IsNew es ks ks list (link_over 0 0 0 0)
new_first es ks list none =
    record {
      len = refl;
      kept = λ i. record { place = refl; start = refl; prev = refl; jump = refl };
      ups = λ i. inl refl;
      place = sym none;
      start = omega arith;
      prev = λ some. absurd (omega arith);
      jump = λ some. absurd (omega arith);
      first = λ some. absurd (omega arith);
      second = λ some. absurd (omega arith);
      first_up = λ some. absurd (omega arith);
      second_up = λ some. absurd (omega arith);
      nested = λ i within same low. omega arith;
      top = refl;
    }

-- no place of a list is after the last
most_place : (es : List Entry) (ks : List Link) (list last i : ℕ) → IsLinked es ks → IsEnd es ks list last → i < length es → list_of es i ≡ list → place_of ks i ≤ place_of ks last
most_place es ks list last i s u within same =
    let below : place_of ks i < length (amounts_of (list_of es i) es) = place_within es ks i s within in
    let is : length (amounts_of (list_of es i) es) ≡ place_of ks last + 1 = ap (λ (l : ℕ). length (amounts_of l es)) same ∙ sym u.last in
    omega arith

pub new_single : (es : List Entry) (ks : List Link) (list last place : ℕ) → IsLinked es ks → IsEnd es ks list last → place ≡ place_of ks last + 1 → IsNew es ks ks list (link_over place place last last)
new_single es ks list last place s u is =
    let before : Precedes es ks list last place = record { within = u.within; of_list = u.of_list; next = sym is } in
    record {
      len = refl;
      kept = λ i. record { place = refl; start = refl; prev = refl; jump = refl };
      ups = λ i. inl refl;
      place = is ∙ u.last;
      start = omega arith;
      prev = λ some. before;
      jump = λ some. before;
      first = λ some. absurd (omega arith);
      second = λ some. absurd (omega arith);
      first_up = λ some. absurd (omega arith);
      second_up = λ some. absurd (omega arith);
      nested = λ i within same low. let most = most_place es ks list last i s u within same in absurd (omega arith);
      top = refl;
    }

-- the last node of a list is none of the two of another
free_last : (es : List Entry) (ks : List Link) (list last : ℕ) → IsLinked es ks → IsEnd es ks list last → IsFree ks last
free_last es ks list last s u k within inner =
    let size : length ks ≡ length es = s.size in
    let here : k < length es = omega arith in
    let first = first_leads es ks k s here inner in
    let second = second_leads es ks k s here inner in
    let first_next : place_of ks (prev_of ks k) + 1 ≡ place_of ks k = first.next in
    let second_next : place_of ks (second_of ks k) + 1 ≡ start_of ks (prev_of ks k) = second.next in
    let earlier : prev_of ks k < k = first.earlier in
    let order : start_of ks (prev_of ks k) ≤ place_of ks (prev_of ks k) = s.start (prev_of ks k) (omega arith) in (
      λ e.
          let most = most_place es ks list last k s u here (sym (ap (list_of es) (sym e) ∙ first.same_list) ∙ u.of_list) in
          let same : place_of ks (prev_of ks k) ≡ place_of ks last = ap (place_of ks) e in
          omega arith,
      λ e.
          let most = most_place es ks list last k s u here (sym (ap (list_of es) (sym e) ∙ (second.same_list ∙ first.same_list)) ∙ u.of_list) in
          let same : place_of ks (second_of ks k) ≡ place_of ks last = ap (place_of ks) e in
          omega arith,
    )

-- nor is the node before what it stands over
free_second : (es : List Entry) (ks : List Link) (list last : ℕ) → IsLinked es ks → IsEnd es ks list last → 0 < start_of ks last → IsFree ks (jump_of ks last)
free_second es ks list last s u some k within inner =
    let size : length ks ≡ length es = s.size in
    let here : k < length es = omega arith in
    let jump : LeadsTo es ks last (jump_of ks last) (start_of ks last) = s.jump last u.within some in
    let jump_earlier : jump_of ks last < last = jump.earlier in
    let jump_next : place_of ks (jump_of ks last) + 1 ≡ start_of ks last = jump.next in
    let within_last : last < length es = u.within in
    let low : start_of ks (jump_of ks last) ≤ place_of ks (jump_of ks last) = s.start (jump_of ks last) (omega arith) in
    let first = first_leads es ks k s here inner in
    let second = second_leads es ks k s here inner in
    let first_next : place_of ks (prev_of ks k) + 1 ≡ place_of ks k = first.next in
    let second_next : place_of ks (second_of ks k) + 1 ≡ start_of ks (prev_of ks k) = second.next in
    let earlier : prev_of ks k < k = first.earlier in
    let order : start_of ks (prev_of ks k) ≤ place_of ks (prev_of ks k) = s.start (prev_of ks k) (omega arith) in
    let end_order : start_of ks last ≤ place_of ks last = s.start last u.within in (
      λ e.
          let list_is : list_of es k ≡ list_of es last = sym first.same_list ∙ (ap (list_of es) e ∙ jump.same_list) in
          let same : place_of ks (prev_of ks k) ≡ place_of ks (jump_of ks last) = ap (place_of ks) e in
          let nested : start_of ks last ≤ start_of ks k = s.nested k last here u.within list_is (omega arith) (omega arith) in
          omega arith,
      λ e.
          let list_is : list_of es k ≡ list_of es last = sym (second.same_list ∙ first.same_list) ∙ (ap (list_of es) e ∙ jump.same_list) in
          let most = most_place es ks list last k s u here (list_is ∙ u.of_list) in
          let same : place_of ks (second_of ks k) ≡ place_of ks (jump_of ks last) = ap (place_of ks) e in
          let start : start_of ks (jump_of ks last) ≡ start_of ks k = ap (start_of ks) (sym e) ∙ (s.two k here inner).second in
          let nested : start_of ks last ≤ start_of ks k = s.nested k last here u.within list_is (omega arith) (omega arith) in
          omega arith,
    )

raised_here : (ks : List Link) (at up : ℕ) → at < length ks → link_at (raised ks at up) at ≡ record (link_at ks at) { up = up }
raised_here ks at up within = get_or-set_same ks at (record (link_at ks at) { up = up }) no_link within

raised_other : (ks : List Link) (at up i : ℕ) → i ≢ at → link_at (raised ks at up) i ≡ link_at ks i
raised_other ks at up i ne = get_or-set_other ks at i (record (link_at ks at) { up = up }) no_link ne

raised_kept : (ks : List Link) (at up i : ℕ) → at < length ks → IsKept (link_at ks i) (link_at (raised ks at up) i)
raised_kept ks at up i within =
    ⊎_elim
    (λ (e : i ≡ at).
    subst (λ (j : ℕ). IsKept (link_at ks j) (link_at (raised ks at up) j)) (sym e)
    (subst (λ (k : Link). IsKept (link_at ks at) k) (sym (raised_here ks at up within)) (record { place = refl; start = refl; prev = refl; jump = refl })))
    (λ (ne : i ≢ at). subst (λ (k : Link). IsKept (link_at ks i) k) (sym (raised_other ks at up i ne)) (record { place = refl; start = refl; prev = refl; jump = refl }))
    (cases_eq i at)

-- the next node, with the last one and the one before what that stands over
pub new_over : (es : List Entry) (ks : List Link) (list last : ℕ) → IsLinked es ks → IsEnd es ks list last → 0 < start_of ks last → IsNew es ks (raised (raised ks last (length ks)) (jump_of ks last) (length ks)) list (link_over (place_of ks last + 1) (start_of ks (jump_of ks last)) last (jump_of ks (jump_of ks last)))
new_over es ks list last s u some =
    let n : ℕ = length ks in
    let two : ℕ = jump_of ks last in
    let once : List Link = raised ks last n in
    let hs : List Link = raised once two n in
    let size : length ks ≡ length es = s.size in
    let jump : LeadsTo es ks last two (start_of ks last) = s.jump last u.within some in
    let earlier : two < last = jump.earlier in
    let next : place_of ks two + 1 ≡ start_of ks last = jump.next in
    let within : last < length es = u.within in
    let inner : two < length es = omega arith in
    let low : start_of ks two ≤ place_of ks two = s.start two inner in
    let order : start_of ks last ≤ place_of ks last = s.start last u.within in
    let len : length once ≡ length ks = length-set ks last (record (link_at ks last) { up = n }) in
    let len_again : length hs ≡ length once = length-set once two (record (link_at once two) { up = n }) in
    let up_two : up_of hs two ≡ n = ap (λ (k : Link). k.up) (raised_here once two n (omega arith)) in
    let up_last : up_of hs last ≡ n = ap (λ (k : Link). k.up) (raised_other once two n last (λ e. omega arith)) ∙ ap (λ (k : Link). k.up) (raised_here ks last n (omega arith)) in
    record {
      len = len_again ∙ len;
      kept = λ i.
          let a : IsKept (link_at ks i) (link_at once i) = raised_kept ks last n i (omega arith) in
          let b : IsKept (link_at once i) (link_at hs i) = raised_kept once two n i (omega arith) in
          record { place = b.place ∙ a.place; start = b.start ∙ a.start; prev = b.prev ∙ a.prev; jump = b.jump ∙ a.jump };
      ups = λ i.
          ⊎_elim
          (λ (e : i ≡ two). inr (ap (up_of hs) e ∙ up_two, subst (λ (j : ℕ). IsFree ks j) (sym e) (free_second es ks list last s u some)))
          (λ (ne : i ≢ two).
          ⊎_elim
          (λ (e : i ≡ last). inr (ap (up_of hs) e ∙ up_last, subst (λ (j : ℕ). IsFree ks j) (sym e) (free_last es ks list last s u)))
          (λ (other : i ≢ last). inl (ap (λ (k : Link). k.up) (raised_other once two n i ne) ∙ ap (λ (k : Link). k.up) (raised_other ks last n i other)))
          (cases_eq i last))
          (cases_eq i two);
      place = u.last;
      start = omega arith;
      prev = λ _. record { within = u.within; of_list = u.of_list; next = refl };
      jump = λ more.
          let l : LeadsTo es ks two (jump_of ks two) (start_of ks two) = s.jump two inner more in
          let before : jump_of ks two < two = l.earlier in
          record { within = omega arith; of_list = l.same_list ∙ (jump.same_list ∙ u.of_list); next = l.next };
      first = λ _. some;
      second = λ _. refl;
      first_up = λ _. up_last;
      second_up = λ _. up_two;
      nested = λ i there same from.
          let most = most_place es ks list last i s u there same in
          ⊎_elim
          (λ (h : place_of ks i < start_of ks last).
          let nested : start_of ks two ≤ start_of ks i = s.nested i two there inner (same ∙ sym (jump.same_list ∙ u.of_list)) from (omega arith) in
          nested)
          (λ (h : start_of ks last ≤ place_of ks i).
          let nested : start_of ks last ≤ start_of ks i = s.nested i last there u.within (same ∙ sym u.of_list) h most in
          omega arith)
          (cases_lt (place_of ks i) (start_of ks last));
      top = refl;
    }
