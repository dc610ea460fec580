use Rattle.std.proofs.Common.{◌≡◌}
use Rattle.commit_journal.specs.Histories.{oldest}
use Rattle.journal_pass.specs.Known.{told_lines}
use Rattle.lock_book.proofs.counted.count_all.Given as goal

-- the first lines are counted
abbrev pub invariant-loop-place : goal.invariant-loop-place
invariant-loop-place l = l.teller ≡ told_lines l.initial.teller (oldest l.journal.history l._place)
