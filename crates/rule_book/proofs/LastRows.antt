-- An item more in the last row.
use Rattle.std.proofs.Common.{◌≡◌, ◌∙◌, ◌<◌, ◌≤◌, ◌+◌, ◌-◌, ℕ, zero, suc, List, [], ◌∷◌, ◌++◌, ap, arith, get_or, length, map, refl, subst, sym, take}
use Rattle.std.specs.Prelude.{sum_by}
use Rattle.std.specs.List.{range_with_len}
use Rattle.std.proofs.lemmas.List.{length-map, length_push, map-append, take_more}
use Rattle.std.proofs.lemmas.List.FromFn.{map-range_with_len_more}
use Rattle.std.proofs.lemmas.List.Sums.{sum_by-append, sum_by-cons}
use Rattle.batch_records.specs.DayRecord.{Day}
use Rattle.commit_journal.specs.declared.line.Move.{Move}
use Rattle.machine.specs.Records.Messages.{entries, move_of}
use Rattle.row_list.specs.Rows.{Rows, row_at, with_item}
use Rattle.rule_book.specs.Moves.{HasMoves, entry_moves, row_in}
use Rattle.rule_book.proofs.Summing.{entries_next, entry_total}

pub with_item_last : {X : Type 0} (x : X) (done : List (List X)) (row : List X) → with_item x (done ++ row ∷ []) ≡ done ++ (row ++ x ∷ []) ∷ []
unfolding with_item
with_item_last x [] row = refl
with_item_last x (d ∷ []) row = refl
with_item_last x (d ∷ e ∷ ds) row = ap (λ rows. d ∷ rows) (with_item_last x (e ∷ ds) row)

pub length_with_item : {X : Type 0} (x : X) (rows : List (List X)) → length (with_item x rows) ≡ length rows
unfolding with_item
length_with_item x [] = refl
length_with_item x (row ∷ []) = refl
length_with_item x (row ∷ next ∷ rows) = ap suc (length_with_item x (next ∷ rows))

-- one item more
pub with_next_item : {X Y : Type 0} (f : X → Y) (xs : List X) (i : ℕ) (x : X) → i < length xs → x ≡ get_or xs i x → map f (take (i + 1) xs) ≡ map f (take i xs) ++ f x ∷ []
with_next_item f xs i x within is = ap (map f) (take_more xs i x within) ∙ map-append f (take i xs) (get_or xs i x ∷ []) ∙ ap (λ y. map f (take i xs) ++ f y ∷ []) (sym is)

-- the rows of the first messages have as many items as the messages have entries
abbrev sizes : List (List Move) → ℕ
sizes rows = sum_by length rows

sum_next : (day : Day) (i : ℕ) → sizes (map (entry_moves day) (range_with_len 1 (i + 1))) ≡ sizes (map (entry_moves day) (range_with_len 1 i)) + length (entries day (i + 1))
sum_next day i =
    let one = sum_by-cons (λ (row : List Move). length row) (entry_moves day (i + 1)) [] in
    let all = sum_by-append (λ (row : List Move). length row) (map (entry_moves day) (range_with_len 1 i)) (entry_moves day (i + 1) ∷ []) in
    let size = length-map (entries day (i + 1)) (move_of day) in
    let sum : sizes (map (entry_moves day) (range_with_len 1 i) ++ entry_moves day (i + 1) ∷ []) ≡ sizes (map (entry_moves day) (range_with_len 1 i)) + length (entries day (i + 1)) = omega (arith, one, all, size) in
    ap sizes (map-range_with_len_more (entry_moves day) 1 i (i + 1) (omega arith)) ∙ sum

sum_first : (day : Day) (i : ℕ) → i ≤ length day.messages → sizes (map (entry_moves day) (range_with_len 1 i)) ≡ entry_total (take i day.messages)
sum_first day zero l = refl
sum_first day (suc i) l =
    let at : i + 1 ≡ suc i = omega arith in
    subst (λ k. sizes (map (entry_moves day) (range_with_len 1 k)) ≡ entry_total (take k day.messages)) at
    (sum_next day i ∙ (ap (λ x. x + length (entries day (i + 1))) (sum_first day i (omega (arith, l))) ∙ sym (entries_next day i (omega (arith, l)))))

pub sum_rows : (day : Day) (rows : List (List Move)) (i : ℕ) → rows ≡ map (entry_moves day) (range_with_len 1 i) → i ≤ length day.messages → sum_by length rows ≡ entry_total (take i day.messages)
sum_rows day rows i is l = ap sizes is ∙ sum_first day i l

-- with a row more there is as much room as before in all
pub still_fits : (day : Day) (n old_count count old_room room messages size : ℕ) (old new : Rows Move) → count ≡ old_count + 1 → room ≡ old_room → 0 < old.room_for_rows → new.rows ≡ old.rows ++ entry_moves day n ∷ []
    → new.room_for_rows ≡ old.room_for_rows - 1 → new.room_for_items + length (entries day n) ≡ old.room_for_items → HasMoves old_count old_room messages size old → HasMoves count room messages size new
still_fits day n old_count count old_room room messages size old new more same some rows left items has =
    let long : length new.rows ≡ length old.rows + 1 = ap (λ (xs : List (List Move)). length xs) rows ∙ length_push old.rows (entry_moves day n) in
    let one = sum_by-cons (λ (row : List Move). length row) (entry_moves day n) [] in
    let all = sum_by-append (λ (row : List Move). length row) old.rows (entry_moves day n ∷ []) in
    let sum : sizes new.rows ≡ sizes (old.rows ++ entry_moves day n ∷ []) = ap sizes rows in
    let own = length-map (entries day n) (move_of day) in
    record {
      one_each = omega (arith, more, long, has.one_each);
      fits = omega (arith, same, has.fits);
      rows_fit = omega (arith, long, left, some, has.rows_fit);
      items_fit = omega (arith, sum, one, all, own, items, has.items_fit);
    }

-- row n, which counts from 1
pub row_none : {X : Type 0} (rows : List (List X)) (n : ℕ) → n ≡ 0 → row_in rows n ≡ []
row_none rows n none = ap (row_in rows) none

pub row_got : {X : Type 0} (rows : List (List X)) (n : ℕ) → 1 ≤ n → row_at rows (n - 1) ≡ row_in rows n
row_got rows zero some = absurd (omega (arith, some))
row_got rows (suc i) some = let e : suc i - 1 ≡ i = omega arith in ap (row_at rows) e ∙ got rows i
  where
    got : {X : Type 0} (rows : List (List X)) (i : ℕ) → row_at rows i ≡ row_in rows (suc i)
    got [] i = refl
    got (row ∷ rows) zero = refl
    got (row ∷ rows) (suc i) = got rows i
