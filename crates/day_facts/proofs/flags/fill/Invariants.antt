use Rattle.std.proofs.Common.{◌≡◌, ◌+◌, ◌++◌, length, map, take}
use Rattle.std.specs.Prelude.{count_by}
use Rattle.std.specs.List.{range_with_len}
use Rattle.day_facts.specs.Left.{is_watched}
use Rattle.day_facts.proofs.flags.fill.Given as goal

abbrev pub invariant-loop-k : goal.invariant-loop-k
invariant-loop-k l = record {
  front : take (l.start + l.k) l.items ≡ take l.start l.initial.items ++ map (is_watched l.watched l.setting.day l.n) (range_with_len 0 l.k);
  size : length l.items ≡ length l.initial.items;
  count : l.standing ≡ count_by (λ flag. flag) (map (is_watched l.watched l.setting.day l.n) (range_with_len 0 l.k));
}
