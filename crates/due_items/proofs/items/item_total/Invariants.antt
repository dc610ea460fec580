use Rattle.std.proofs.Common.{◌≡◌, ◌+◌}
use Rattle.scan_laws.specs.Numbers.{item_number}
use Rattle.due_items.proofs.items.item_total.Given as goal

abbrev pub invariant-loop-before : goal.invariant-loop-before
invariant-loop-before l = l.total ≡ item_number l.setting.day (l.before + 1) 0
