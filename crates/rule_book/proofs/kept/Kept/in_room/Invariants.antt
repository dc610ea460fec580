use Rattle.std.proofs.Common.{◌≡◌, ◌≤◌, length, map}
use Rattle.std.specs.List.{range_with_len}
use Rattle.std.specs.Vec.{vec_capacity}
use Rattle.rule_book.proofs.KeptFacts.{both_kept}
use Rattle.rule_book.proofs.kept.Kept.in_room.Given as goal

abbrev pub invariant-loop-before : goal.invariant-loop-before
invariant-loop-before l = (l.items.items ≡ map (both_kept l.day) (range_with_len 1 l.before)) × (length l.day.accounts ≤ vec_capacity l.items)
