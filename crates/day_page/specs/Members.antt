-- What the members of a row hold together, kept by what the lines move.
use Rattle.std.specs.Prelude.{ℕ, ◌+◌, ◌-◌, ◌*◌, ◌^◌, ◌≡◌, List, map, min, count_by, nat_eq, slice_index}
use Rattle.std.specs.List.{range_with_len}
use Rattle.commit_journal.specs.declared.line.Move.{Move}

-- how often an account stands among the members
abbrev pub times : List ℕ → ℕ → ℕ
times members a = count_by (nat_eq a) members

-- that of each of so many accounts, by their numbers, from 0 on
abbrev pub counted : List ℕ → ℕ → List ℕ
counted members count = map (times members) (range_with_len 0 count)

abbrev pub once_more : ℕ → ℕ
once_more times = min (times + 1) (2 ^ 32 - 1)

-- a table that says it of each account
abbrev pub AreCounts : List ℕ → List ℕ → Type 0
AreCounts members counts = (a : ℕ) → slice_index counts a ≡ times members a

-- what a move brings to the members, and what it takes from them, by a table of how often each account stands among them
abbrev pub brought : List ℕ → Move → ℕ
brought counts m = m.amount * slice_index counts m.credit

abbrev pub taken : List ℕ → Move → ℕ
taken counts m = m.amount * slice_index counts m.debit
