use Rattle.std.proofs.Common.{◌≡◌, [], length}
use Rattle.commit_journal.specs.declared.move_list.TheConstants.{MAX_MOVES}
use Rattle.settlement_laws.specs.Fits.{Fits}
use Rattle.journal_replay.specs.Verdicts.{followed, longest}
use Rattle.journal_reading.proofs.reading.read_lines.Given as goal

abbrev pub invariant-loop-read : goal.invariant-loop-read
invariant-loop-read l = record {
  same : followed (length l.rest) l.setting.day l.journal.history l.rest ≡ longest l.setting.day l.text;
  lines : l._read ≡ length l.journal.history;
  fits : Fits l.setting.day l.journal;
  moves : l.moves ≡ record { moves = []; room = MAX_MOVES };
}
