use Rattle.std.proofs.Common.{◌≡◌, ◌+◌, ◌≤◌, ◌++◌, length, drop}
use Rattle.std.specs.Prelude.{filter}
use Rattle.rule_book.specs.Moves.{goes_on_side}
use Rattle.rule_book.proofs.lines.push_sided.Given as goal

abbrev pub invariant-loop-found : goal.invariant-loop-found
invariant-loop-found l = record {
  made : l.moves.moves ++ filter (goes_on_side l.debits l.technical) (drop l.found-index l.listed) ≡ l.initial.moves.moves ++ filter (goes_on_side l.debits l.technical) l.listed;
  room : l.moves.room + length (filter (goes_on_side l.debits l.technical) l.listed) ≡ l.initial.moves.room + length (filter (goes_on_side l.debits l.technical) (drop l.found-index l.listed));
  fits : length (filter (goes_on_side l.debits l.technical) (drop l.found-index l.listed)) ≤ l.moves.room;
}
