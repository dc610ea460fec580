-- How a journal is stored.
use Rattle.std.specs.Prelude.{◌≡◌, ℕ, ◌+◌, ◌-◌, ◌≤◌, ◌<◌, ◌^◌, List, [], ◌∷◌, reverse, take, drop, vec_len, vec_capacity}
use Rattle.commit_journal.specs.declared.line.Move.{Move}
use Rattle.commit_journal.specs.declared.journal.Stored.{Stored}
use Rattle.commit_journal.specs.declared.journal.Journal.TheInside.{Inside}
use Rattle.commit_journal.specs.Line.{History}
use Rattle.commit_journal.specs.Kept.{Kept}

-- the lines of stored heads and moves, all of them with the newest first
unfoldable pub unstack : List Stored → List Move → History
unstack [] ms = []
unstack (s ∷ ss) ms = record { head = s.head; moves = reverse (take s.count ms) } ∷ unstack ss (drop s.count ms)

abbrev pub total : List Stored → ℕ
total [] = 0
total (s ∷ ss) = s.count + total ss

-- each line's moves stand after those of the lines before it
abbrev pub IsStacked : List Stored → Type 0
IsStacked [] = Unit {0}
IsStacked (s ∷ ss) = (s.from ≡ total ss) × IsStacked ss

abbrev pub kept_of : Inside → Kept
kept_of j = record { history = unstack (reverse j.stored.items) (reverse j.moves.items); room_for_lines = j.most_lines - vec_len j.stored; room_for_moves = j.most_moves - vec_len j.moves }

pub record IsStored (j : Inside) : Type 0 where
  pub lines_fit : vec_len j.stored ≤ j.most_lines
  pub moves_fit : vec_len j.moves ≤ j.most_moves
  pub room : j.most_lines ≤ vec_capacity j.stored
  pub room_for_moves : j.most_moves ≤ vec_capacity j.moves
  pub lines_small : j.most_lines < 2 ^ 32
  pub moves_small : j.most_moves < 2 ^ 32
  pub all_counted : total (reverse j.stored.items) ≡ vec_len j.moves
  pub stacked : IsStacked (reverse j.stored.items)
