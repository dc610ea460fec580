use Rattle.std.proofs.Common.{◌≡◌, [], length}
use Rattle.cash_amounts.specs.Numbers.{numbered}
use Rattle.commit_journal.specs.declared.move_list.TheConstants.{MAX_MOVES}
use Rattle.machine.specs.Legal.{is_complete}
use Rattle.settle_floor.specs.Floors.{AtWork}
use Rattle.journal_replay.specs.Verdicts.{followed, longest}
use Rattle.journal_replay.proofs.judging.follow.Given as goal

abbrev pub invariant-lines : goal.invariant-lines
invariant-lines l = record {
  same : followed (length l.rest) l.setting.day l.floor.journal.history l.rest ≡ longest l.setting.day l.text;
  lines : l.lines ≡ length l.floor.journal.history;
  ended : l.ended ≡ is_complete l.floor.journal.history;
  at_work : AtWork l.setting.day l.floor (numbered l.till);
  moves : l.moves ≡ record { moves = []; room = MAX_MOVES };
}

abbrev pub decreases-lines : goal.decreases-lines
decreases-lines l = length l.rest
