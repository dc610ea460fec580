use Rattle.std.proofs.Common.{◌≡◌, length}
use Rattle.commit_journal.specs.Histories.{oldest}
use Rattle.lock_book.specs.Groups.{Balanced, group_size}
use Rattle.lock_book.proofs.group.Group.catch_up.Given as goal

-- the balances are over the lines so far
abbrev pub invariant-loop-place : goal.invariant-loop-place
invariant-loop-place g l =
    (length l.balances.items ≡ group_size (length g.H.HallName.day.accounts) g.row.NUMBER)
    × Balanced g.H.HallName.day (oldest l.journal.history l.place) g.row.NUMBER l.balances.items
