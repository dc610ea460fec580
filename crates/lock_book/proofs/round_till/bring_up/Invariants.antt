use Rattle.std.proofs.Common.{◌≡◌, true}
use Rattle.cash_amounts.specs.Numbers.{numbered}
use Rattle.commit_journal.specs.Histories.{oldest}
use Rattle.settle_floor.specs.Floors.{has_all}
use Rattle.settle_floor.specs.Tills.{KeepsBalances}
use Rattle.lock_book.proofs.round_till.bring_up.Given as goal

-- the balances are over the lines so far
abbrev pub invariant-loop-place : goal.invariant-loop-place
invariant-loop-place g l =
    (has_all (numbered l.till) g.H.HallName.day ≡ true) × KeepsBalances (numbered l.till) g.H.HallName.day (oldest l.journal.history l.place)
