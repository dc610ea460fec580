use Rattle.std.proofs.Common.{◌≡◌, ℕ, ◌-◌, ◌<◌, ◌≤◌, true, false, length}
use Rattle.batch_records.specs.DayRecord.{Day}
use Rattle.commit_journal.specs.Line.{History}
use Rattle.day_facts.specs.Facts.{StandsFor}
use Rattle.number_set.specs.Members.{has}
use Rattle.due_items.specs.Kept.{KeepsDue}
use Rattle.ready_items.specs.Kept.{Fits}
use Rattle.ready_items.specs.Noting.{Renews}
use Rattle.ready_items.specs.Room.{HasSameRoom}
use Rattle.ready_items.proofs.ready.ReadyItems.renew_told.Given as goal

-- the items below `from` that are told of are renewed
abbrev pub invariant-loop-i : goal.invariant-loop-i
invariant-loop-i l = record {
  room : HasSameRoom l.initial.self l.self;
  index : l.due.index ≡ l.initial.due.index;
  ready : (K : History) → StandsFor l.setting.day K l.facts → KeepsDue l.setting.day K l.initial.due → Fits l.setting.day l.initial.self → Renews l.setting.day K (λ j. (j < l.from) × (has l.initial.due.renewed j ≡ true)) l.initial.self l.self;
  due : (day : Day) (K : History) → KeepsDue day K l.initial.due → KeepsDue day K l.due;
  size : length l.due.renewed ≡ length l.initial.due.renewed;
  gone : (j : ℕ) → j < l.from → has l.due.renewed j ≡ false;
  same : (j : ℕ) → l.from ≤ j → has l.due.renewed j ≡ has l.initial.due.renewed j;
}

abbrev pub decreases-loop-i : goal.decreases-loop-i
decreases-loop-i l = length l.due.renewed - l.from
