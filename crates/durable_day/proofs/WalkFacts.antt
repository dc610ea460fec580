-- What a place of a store tells of the machine's next line, and how a walk over the lines goes on.
use Rattle.std.proofs.Common.{◌≡◌, ℕ, zero, suc, ◌+◌, ◌<◌, ◌≤◌, ◌^◌, true, false, List, [], ◌∷◌, ◌++◌, length, take, drop, Some, None, refl, sym, ap, subst, ◌∙◌, arith, append-nil, length-drop}
use Rattle.std.specs.Option.{option_map_or}
use Rattle.std.proofs.lemmas.List.{length-append, length-take-le, drop-drop}
use Rattle.batch_records.specs.DayRecord.{Day}
use Rattle.batch_records.specs.Sound.{is_sound}
use Rattle.commit_journal.specs.Line.{Line, History}
use Rattle.commit_journal.specs.Text.{line_text}
use Rattle.commit_journal.specs.FieldGrammar.{Read}
use Rattle.commit_journal.proofs.FieldLemmas.{none_of, some_is}
use Rattle.machine.specs.Legal.{IsLegal}
use Rattle.journal_replay.specs.Verdicts.{next_line}
use Rattle.journal_replay.proofs.Following.{next_is, next_stands}
use Rattle.durable_day.specs.Bytes.{gated, stored, text_behind, next_stored, lengthened, front, is_closed}
use Rattle.durable_day.specs.Entries.{IsText, NoTextFits}
use Rattle.durable_day.proofs.TextSizes.{line_in_room}
use Rattle.durable_day.proofs.StoreFacts.{closed_stops, gate_is, goes_further, length-gated, next_stored_is, next_stored_stands, stops_here, text_told}

-- ---- one place

pub open_there : (bytes text : List ℕ) (count : ℕ) → IsText bytes text count → is_closed bytes ≡ false
open_there bytes text count stands = ap is_closed stands.bytes_are

pub inside_there : (bytes text : List ℕ) (count : ℕ) → IsText bytes text count → 5 + count ≤ length bytes
inside_there bytes text count stands =
    let t : List ℕ = take count text in
    omega (arith, ap length stands.bytes_are, length-append (gated t) (drop (5 + count) bytes), length-gated t, length-take-le count text stands.room)

module _ (day : Day) (sound : is_sound day ≡ true) (J : History) (legal : IsLegal day J) where
  -- the line that stands next is the one that the text tells
  pub text_next : (bytes text : List ℕ) (count : ℕ) (y : Line × List ℕ) → IsText bytes text count → length text ≤ 2 ^ 22 → next_stored day J bytes ≡ Some y → next_line day J (take count text) ≡ Some (y.0, [])
  text_next bytes text count y stands room h =
      let is = next_stored_is day J bytes y h in
      let mine : List ℕ = line_text (suc (length J)) y.0 in
      let short : length (take count text) < 2 ^ 32 = omega (arith, length-take-le count text stands.room, stands.room, room) in
      let same : take count text ≡ mine =
      sym (text_told (take count text) (drop (5 + count) bytes) short) ∙ ap text_behind (sym stands.bytes_are ∙ is.bytes_are)
      ∙ text_told mine y.1 (omega (arith, line_in_room day sound J y.0 (legal, is.made))) in
      ap (next_line day J) (same ∙ sym (append-nil mine)) ∙ next_stands day sound J y.0 [] (legal, is.made)

  -- the text of the machine's line stands there as this line
  pub text_taken : (bytes text : List ℕ) (count : ℕ) (l : Line) → IsText bytes text count → next_line day J (take count text) ≡ Some (l, []) → next_stored day J bytes ≡ Some (l, drop (5 + count) bytes)
  text_taken bytes text count l stands h =
      let is = next_is day J (take count text) (l, []) h in
      let same : take count text ≡ line_text (suc (length J)) l = is.text ∙ append-nil (line_text (suc (length J)) l) in
      ap (next_stored day J) (stands.bytes_are ∙ ap (λ (t : List ℕ). gated t ++ drop (5 + count) bytes) same)
      ∙ next_stored_stands day sound J l (drop (5 + count) bytes) (legal, is.made)

  -- where the text is not that of the machine's line, none stands there
  pub none_taken : (bytes text : List ℕ) (count : ℕ) → IsText bytes text count → length text ≤ 2 ^ 22 → ((l : Line) → next_line day J (take count text) ≡ Some (l, []) → ⊥) → next_stored day J bytes ≡ None
  none_taken bytes text count stands room other =
      none_of (next_stored day J bytes) (λ y h. other y.0 (text_next bytes text count y stands room h))

  -- nor where no text fits
  pub none_fits : (bytes text : List ℕ) → 2 ^ 21 ≤ length text → NoTextFits bytes text → next_stored day J bytes ≡ None
  none_fits bytes text room none = none_of (next_stored day J bytes) (λ y h.
      let is = next_stored_is day J bytes y h in
      let long = none (line_text (suc (length J)) y.0) y.1 is.bytes_are in
      absurd (omega (arith, long, room, line_in_room day sound J y.0 (legal, is.made))))

  -- nor at a closed gate
  pub none_closed : (bytes : List ℕ) → is_closed bytes ≡ true → next_stored day J bytes ≡ None
  none_closed bytes shut =
      let gate = gate_is bytes shut in
      ap (next_stored day J) gate.2 ∙ closed_stops day J gate.0 gate.1 gate.3

-- ---- from place to place

-- the text of the line that was found there has as many bytes as its length told
pub as_long : (day : Day) (J : History) (bytes : List ℕ) (l : Line) (count : ℕ) → next_stored day J bytes ≡ Some (l, drop (5 + count) bytes) → 5 + count ≤ length bytes → length (line_text (suc (length J)) l) ≡ count
as_long day J bytes l count h inside =
    let is = next_stored_is day J bytes (l, drop (5 + count) bytes) h in
    let mine : List ℕ = line_text (suc (length J)) l in
    omega (arith, inside, length-drop (5 + count) bytes, ap length is.bytes_are, length-append (gated mine) (drop (5 + count) bytes), length-gated mine)

pub one_longer : (J : History) (l : Line) (at count : ℕ) → at ≡ length (stored J) → length (line_text (suc (length J)) l) ≡ count → at + (5 + count) ≡ length (stored (l ∷ J))
unfolding stored
one_longer J l at count is long =
    let mine : List ℕ = line_text (suc (length J)) l in
    omega (arith, is, long, length-append (stored J) (gated mine), length-gated mine)

-- the front is found from here on
pub front_from_here : (day : Day) (seen : List ℕ) (J : History) (at count : ℕ) (l : Line) → lengthened (length (drop at seen)) day J (drop at seen) ≡ front day seen → next_stored day J (drop at seen) ≡ Some (l, drop (5 + count) (drop at seen)) →
    lengthened (length (drop (at + (5 + count)) seen)) day (l ∷ J) (drop (at + (5 + count)) seen) ≡ front day seen
front_from_here day seen J at count l same h =
    let next : drop (at + (5 + count)) seen ≡ drop (5 + count) (drop at seen) = sym (drop-drop (5 + count) at seen) in
    ap (λ (xs : List ℕ). lengthened (length xs) day (l ∷ J) xs) next ∙ sym (goes_further day J (drop at seen) (l, drop (5 + count) (drop at seen)) h) ∙ same

-- and ends here
pub front_ends : (day : Day) (seen : List ℕ) (J : History) (at : ℕ) → lengthened (length (drop at seen)) day J (drop at seen) ≡ front day seen → next_stored day J (drop at seen) ≡ None → front day seen ≡ (J, drop at seen)
front_ends day seen J at same h = sym same ∙ stops_here day J (drop at seen) h

-- no line that was found is lost
pub longer : (n : ℕ) (day : Day) (J : History) (bytes : List ℕ) → length J ≤ length (lengthened n day J bytes).0
unfolding lengthened
longer zero day J bytes = omega arith
longer (suc n) day J bytes = here (longer n day) (next_stored day J bytes)
  where
    here : ((K : History) (rest : List ℕ) → length K ≤ length (lengthened n day K rest).0) → (o : Read Line) → length J ≤ length (option_map_or (λ (read : Line × List ℕ). lengthened n day (read.0 ∷ J) read.1) o (J, bytes)).0
    here more None = omega arith
    here more (Some y) = let m = more (y.0 ∷ J) y.1 in omega (arith, m)

pub front_no_shorter : (day : Day) (seen : List ℕ) (J : History) (at : ℕ) → lengthened (length (drop at seen)) day J (drop at seen) ≡ front day seen → length J ≤ length (front day seen).0
front_no_shorter day seen J at same =
    let l = longer (length (drop at seen)) day J (drop at seen) in
    omega (arith, l, ap (λ (f : History × List ℕ). length f.0) same)

-- ---- what is read of a text

pub empty_is : (xs : List ℕ) → length xs ≡ 0 → xs ≡ []
empty_is [] h = refl
empty_is (x ∷ xs) h = absurd (omega (arith, h))

pub never_both : (o : Read Line) (y : Line × List ℕ) → o ≡ None → o ≡ Some y → ⊥
never_both None y h k = absurd (cc)
never_both (Some x) y h k = absurd (cc)

pub other_rest : (o : Read Line) (l m : Line) (rest : List ℕ) → o ≡ Some (l, rest) → o ≡ Some (m, []) → rest ≡ []
other_rest o l m rest h k = ap (λ (y : Line × List ℕ). y.1) (some_is (l, rest) (m, []) (sym h ∙ k))

-- ---- a walk over the lines

-- the lines up to this place are those of the history, and the front is found from here on
pub record IsWalked (day : Day) (seen : List ℕ) (J : History) (at lines : ℕ) : Type 0 where
  pub same : lengthened (length (drop at seen)) day J (drop at seen) ≡ front day seen
  pub inside : at ≤ length seen
  pub at_is : at ≡ length (stored J)
  pub lines_are : lines ≡ length J

pub walk_begins : (day : Day) (seen : List ℕ) (J : History) → J ≡ [] → IsWalked day seen J 0 0
unfolding stored
walk_begins day seen J empty = subst (λ (K : History). IsWalked day seen K 0 0) (sym empty) (record { same = refl; inside = omega arith; at_is = refl; lines_are = refl })

pub walk_on : (day : Day) (seen : List ℕ) (J later : History) (at lines count : ℕ) (l : Line) → IsWalked day seen J at lines → next_stored day J (drop at seen) ≡ Some (l, drop (5 + count) (drop at seen)) → later ≡ l ∷ J → 5 + count ≤ length (drop at seen) →
    IsWalked day seen later (at + (5 + count)) (lines + 1)
walk_on day seen J later at lines count l so_far h is within =
    let long = as_long day J (drop at seen) l count h within in
    let there : IsWalked day seen (l ∷ J) (at + (5 + count)) (lines + 1) = record {
      same = front_from_here day seen J at count l so_far.same h;
      inside = omega (arith, within, so_far.inside, length-drop at seen);
      at_is = one_longer J l at count so_far.at_is long;
      lines_are = omega (arith, so_far.lines_are);
    } in
    subst (λ (K : History). IsWalked day seen K (at + (5 + count)) (lines + 1)) (sym is) there

-- the walk ends here
pub walk_ends : (day : Day) (seen : List ℕ) (J : History) (at lines : ℕ) → IsWalked day seen J at lines → next_stored day J (drop at seen) ≡ None → front day seen ≡ (J, drop at seen)
walk_ends day seen J at lines so_far h = front_ends day seen J at so_far.same h

pub walk_few : (day : Day) (seen : List ℕ) (J : History) (at lines : ℕ) → IsWalked day seen J at lines → lines ≤ length (front day seen).0
walk_few day seen J at lines so_far = let few = front_no_shorter day seen J at so_far.same in omega (arith, few, so_far.lines_are)
