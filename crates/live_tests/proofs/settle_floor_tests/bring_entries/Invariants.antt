use Rattle.std.proofs.Common.{◌≡◌, [], take}
use Rattle.batch_records.specs.DayRecord.{Day}
use Rattle.batch_records.specs.Flat.{with_entries}
use Rattle.batch_records.specs.declared.day.MessageRecord.{MessageRecord}
use Rattle.rule_book.specs.Repeated.{with_one}
use Rattle.live_tests.proofs.settle_floor_tests.bring_entries.Given as goal

-- the entries so far
abbrev pub invariant-loop-entry : goal.invariant-loop-entry
invariant-loop-entry g l = (before : Day) (own : MessageRecord) → l.initial.day ≡ with_one before (with_entries own []) → l.day ≡ with_one before (with_entries own (take l.entry-index l.entries))
