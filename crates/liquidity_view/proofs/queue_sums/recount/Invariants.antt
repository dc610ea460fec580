use Rattle.std.proofs.Common.{◌≡◌, ℕ, ◌-◌, ◌<◌, ◌≤◌, false, true, length}
use Rattle.commit_journal.specs.Histories.{oldest}
use Rattle.number_set.specs.Members.{has}
use Rattle.due_items.specs.Kept.{KeepsDue}
use Rattle.liquidity_view.specs.Counted.{AddsUp, Recounts}
use Rattle.liquidity_view.proofs.queue_sums.recount.Given as goal

-- the items below `from` that were brought up to date are counted
abbrev pub invariant-loop-number : goal.invariant-loop-number
invariant-loop-number l = record {
  due : KeepsDue l.past.setting.now.day (oldest l.past.journal.now.history l.past.place) l.due;
  sums : AddsUp l.past.setting.now.day l.name l.counted;
  size : length l.due.renewed ≡ length l.initial.due.renewed;
  same : (j : ℕ) → l.from ≤ j → has l.due.renewed j ≡ has l.initial.due.renewed j;
  gone : (j : ℕ) → j < l.from → has l.due.renewed j ≡ false;
  counted : Recounts l.past.setting.now.day (oldest l.past.journal.now.history l.past.place) (λ i. (i < l.from) × (has l.initial.due.renewed i ≡ true)) l.initial.counted.set l.counted.set;
}

abbrev pub decreases-loop-number : goal.decreases-loop-number
decreases-loop-number l = length l.due.renewed - l.from
