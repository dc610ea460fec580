-- What all accounts hold after one more line.
use Rattle.std.proofs.Common.{◌≡◌, ◌∙◌, ℕ, ◌+◌, ◌-◌, ◌*◌, ◌^◌, ◌≤◌, true, List, [], ◌∷◌, length, map, ap, sym, subst, refl, arith}
use Rattle.std.specs.List.{range_with_len}
use Rattle.std.proofs.lemmas.List.Sums.{sum_by-cons}
use Rattle.std.proofs.Math.Nat.{le-max_right, min-le_right}
use Rattle.batch_records.specs.DayRecord.{Day}
use Rattle.batch_records.specs.Sound.{is_sound}
use Rattle.commit_journal.specs.Line.{Line, History}
use Rattle.machine.specs.Legal.{IsLegal}
use Rattle.machine.specs.Orders.Bounds.{move_limit}
use Rattle.machine.specs.Telling.Balances.{balance, credits, debits}
use Rattle.day_page.specs.declared.extents.Extent.{Extent}
use Rattle.day_page.specs.Courses.{highest, lowest, total}
use Rattle.day_page.specs.Extents.{extent, extents, marked, moved_by}
use Rattle.day_page.specs.Running.{came_to, left_from}
use Rattle.day_page.proofs.EachExtent.{moved_each}
use Rattle.day_page.proofs.ExtentAmounts.{left, with_held}
use Rattle.day_page.proofs.MovedOne.{fall, rise, tick}
use Rattle.day_page.proofs.Totals.{few_moved, is_credits, is_debits, one_after, total_small}

-- ---- one account

lowest_below : (day : Day) (members : List ℕ) (J : History) → lowest day members J ≤ total day members J
unfolding lowest
lowest_below day members [] = omega arith
lowest_below day members (l ∷ J) = min-le_right (lowest day members J) (total day members (l ∷ J))

highest_above : (day : Day) (members : List ℕ) (J : History) → total day members J ≤ highest day members J
unfolding highest
highest_above day members [] = omega arith
highest_above day members (l ∷ J) = le-max_right (highest day members J) (total day members (l ∷ J))

held_after : (day : Day) (l : Line) (J : History) (a : ℕ) → IsLegal day (l ∷ J) → total day (a ∷ []) J + credits a l.moves - debits a l.moves ≡ total day (a ∷ []) (l ∷ J)
unfolding came_to left_from
held_after day l J a legal =
    let moved : balance day (l ∷ J) a + left_from l.moves a ≡ balance day J a + came_to l.moves a = one_after day l J a legal in
    let came : came_to l.moves a ≡ credits a l.moves = is_credits a l.moves in
    let gone : left_from l.moves a ≡ debits a l.moves = is_debits a l.moves in
    let before : total day (a ∷ []) J ≡ balance day J a + total day [] J = sum_by-cons (balance day J) a [] in
    let after : total day (a ∷ []) (l ∷ J) ≡ balance day (l ∷ J) a + total day [] (l ∷ J) = sum_by-cons (balance day (l ∷ J)) a [] in
    omega (arith, moved, came, gone, before, after)

marked_is : (day : Day) (l : Line) (J : History) (a : ℕ) → marked (with_held (extent day J a) (total day (a ∷ []) (l ∷ J))) ≡ extent day (l ∷ J) a
unfolding lowest highest
marked_is day l J a = refl

one_more : (day : Day) (l : Line) (J : History) (a : ℕ) → IsLegal day (l ∷ J) → total day (a ∷ []) J + credits a l.moves ≤ 2 ^ 128 - 1
    → tick l.moves a (fall l.moves a (rise l.moves a (extent day J a))) ≡ extent day (l ∷ J) a
one_more day l J a legal small =
    left l.moves a (extent day J a) small (lowest_below day (a ∷ []) J) (highest_above day (a ∷ []) J)
    ∙ ap (λ held. marked (with_held (extent day J a) held)) (held_after day l J a legal)
    ∙ marked_is day l J a

-- ---- all of them, where no account gets too much

pub extents_more : (day : Day) (l : Line) (J : History) → IsLegal day (l ∷ J) → ((a : ℕ) → total day (a ∷ []) J + credits a l.moves ≤ 2 ^ 128 - 1) → moved_by l.moves (extents day J) ≡ extents day (l ∷ J)
extents_more day l J legal small =
    moved_each (extent day J) (length day.accounts) l.moves
    ∙ (λ i. map (λ a. one_more day l J a legal (small a) i) (range_with_len 1 (length day.accounts)))

-- of lines that are this line and those before it, of which no move brings above 10^18
pub extents_after : (day : Day) (l : Line) (later J : History) (before : List Extent) → is_sound day ≡ true → IsLegal day later → later ≡ l ∷ J
    → ((a : ℕ) → credits a l.moves ≤ 10 ^ 18 * length l.moves) → before ≡ extents day J → moved_by l.moves before ≡ extents day later
extents_after day l later J before sound legal e small is =
    ap (moved_by l.moves) is ∙ extents_more day l J here (λ a.
    let few : length l.moves ≤ move_limit = few_moved day l later J sound legal e in
    let held : total day (a ∷ []) J ≤ 10 ^ 18 * length (a ∷ []) = total_small day J (a ∷ []) sound here.0 in
    let s = small a in
    omega (arith, few, held, s)) ∙ ap (extents day) (sym e)
  where
    here : IsLegal day (l ∷ J)
    here = subst (IsLegal day) e legal
