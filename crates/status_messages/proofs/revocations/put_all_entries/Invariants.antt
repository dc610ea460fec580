use Rattle.std.proofs.Common.{take, length}
use Rattle.std.specs.List.{flat_map, range_with_len}
use Rattle.outside_io.specs.Pieces.{HasPut}
use Rattle.commit_journal.specs.Histories.{oldest}
use Rattle.machine.specs.Records.Messages.{entries}
use Rattle.status_messages.specs.LineTexts.{entry_revocation}
use Rattle.status_messages.proofs.revocations.put_all_entries.Given as goal

abbrev pub invariant-loop-before : goal.invariant-loop-before
invariant-loop-before g l =
    let day = l.lines.setting.now.day in
    HasPut (g.S.Sink.state l.initial.sink) (g.S.Sink.state l.sink) (flat_map (entry_revocation day (oldest l.lines.journal.now.history l.lines.place) l.lines.place l.b) (take l.before (range_with_len 1 (length (entries day l.b)))))
