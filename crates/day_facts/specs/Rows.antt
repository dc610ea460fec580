-- What rows of items have of a message: a row for each message, an item for the message and each of its entries.
use Rattle.std.specs.Prelude.{ℕ, ◌-◌, ◌≤◌, Bool, false, true, not, List, Option, None, ◌≡◌, length, map, count_by, slice_index_or}
use Rattle.std.specs.List.{list_all}
use Rattle.std.specs.Option.{option_map_or}
use Rattle.machine.specs.Words.{numbered}
use Rattle.rule_book.specs.Rows.{Rises, RisesTo, cut}
use Rattle.day_facts.specs.Lists.{at}

-- ---- what rows have of message n

-- the place of item k
abbrev pub place_at : List (List (Option ℕ)) → ℕ → ℕ → Option ℕ
place_at rows n k = option_map_or (λ row. at row k) (numbered rows n) None

-- the flag of item k
abbrev pub flag_at : List (List Bool) → ℕ → ℕ → Bool
flag_at rows n k = option_map_or (λ row. slice_index_or row k false) (numbered rows n) false

-- how many flags stand
abbrev pub count_in : List (List Bool) → ℕ → ℕ
count_in rows n = option_map_or (λ row. count_by (λ flag. flag) row) (numbered rows n) 0

-- none of the flags stands
abbrev pub none_in : List (List Bool) → ℕ → Bool
none_in rows n = option_map_or (λ row. list_all not row) (numbered rows n) true

-- ---- flags with their counts

-- no row ends before it begins, and in each so many flags stand
pub record IsCounted (ends : List ℕ) (flags : List Bool) (standing : List ℕ) : Type 0 where
  pub rises : Rises 0 ends
  pub counted : standing ≡ map (count_by (λ flag. flag)) (cut 0 ends flags)

-- the rows end where the free flags begin, and there is as much room for counts as for rows
pub record AreHeld (ends : List ℕ) (flags : List Bool) (standing : List ℕ) (free rows counts : ℕ) : Type 0 where
  pub is_counted : IsCounted ends flags standing
  pub within : free ≤ length flags
  pub ends_there : RisesTo 0 ends (length flags - free)
  pub room : rows ≤ counts
