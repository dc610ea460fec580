-- A row for each second from 0 to midnight, kept in pages of 256 rows. A page is made once a row of it is set.
use Rattle.std.specs.Prelude.{ℕ, zero, suc, ◌≡◌, ◌≤◌, ◌+◌, ◌*◌, ◌/◌, ◌%◌, List, length, map, slice_index_or, sum_by}
use Rattle.std.specs.List.{range_with_len}

-- row i of the page of this number, where the pages stand one after another and are counted from 1; page 0 has rows of 0
abbrev pub in_page : List ℕ → ℕ → ℕ → ℕ
in_page pages zero i = zero
in_page pages (suc p) i = slice_index_or pages (p * 256 + i) 0

-- row t, where the first list has by 256 seconds the number of their page, or 0 where none is made
abbrev pub row_at : List ℕ → List ℕ → ℕ → ℕ
row_at top pages t = in_page pages (slice_index_or top (t / 256) 0) (t % 256)

-- the row of each second
abbrev pub rows_in : List ℕ → List ℕ → List ℕ
rows_in top pages = map (row_at top pages) (range_with_len 0 86401)

-- 1 for a page that isn't made
abbrev pub lacking : ℕ → ℕ
lacking zero = 1
lacking (suc p) = 0

-- what holds of pages that are made one after another, each for its own 256 seconds
pub record ArePages (top pages : List ℕ) : Type 0 where
  -- 338 times 256 seconds reach past midnight
  pub tops : length top ≡ 338
  -- the pages that are made and those that aren't are all, and each that is made has all its rows
  pub whole : length pages + sum_by lacking top * 256 ≡ 86528
  -- a number is that of a page that is made
  pub made : (b : ℕ) → slice_index_or top b 0 * 256 ≤ length pages
  -- no other 256 seconds have the same page
  pub alone : (b c : ℕ) → 1 ≤ slice_index_or top b 0 → slice_index_or top b 0 ≡ slice_index_or top c 0 → b ≡ c
