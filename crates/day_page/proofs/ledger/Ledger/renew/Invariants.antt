use Rattle.std.proofs.Common.{◌≡◌, ℕ, ◌-◌, ◌<◌, false, length}
use Rattle.commit_journal.specs.Histories.{oldest}
use Rattle.number_set.specs.Members.{has}
use Rattle.due_items.specs.Kept.{KeepsDue}
use Rattle.day_page.specs.Stakes.{IsKeptBut}
use Rattle.day_page.proofs.ledger.Ledger.renew.Given as goal

-- the items below `from` are brought up to date
abbrev pub invariant-loop-i : goal.invariant-loop-i
invariant-loop-i l = record {
  due : KeepsDue l.past.setting.now.day (oldest l.past.journal.now.history l.past.place) l.due;
  kept : IsKeptBut l.past.setting.now.day l.request (oldest l.past.journal.now.history l.past.place) l.due.renewed l.self;
  gone : (j : ℕ) → j < l.from → has l.due.renewed j ≡ false;
}

abbrev pub decreases-loop-i : goal.decreases-loop-i
decreases-loop-i l = length l.due.renewed - l.from
