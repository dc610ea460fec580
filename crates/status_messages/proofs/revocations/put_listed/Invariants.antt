use Rattle.std.proofs.Common.{drop, length, take}
use Rattle.std.specs.List.{flat_map, range_with_len}
use Rattle.outside_io.specs.Pieces.{HasPut}
use Rattle.commit_journal.specs.Histories.{oldest}
use Rattle.machine.specs.Records.Messages.{entries}
use Rattle.status_messages.specs.LineTexts.{entry_revocation}
use Rattle.status_messages.proofs.ListedTexts.{Left}
use Rattle.status_messages.proofs.revocations.put_listed.Given as goal

-- what the entries tell up to one of them is put
abbrev pub invariant-loop-key : goal.invariant-loop-key
invariant-loop-key g l =
    let day = l.lines.setting.now.day in
    let f = entry_revocation day (oldest l.lines.journal.now.history l.lines.place) l.lines.place l.b in
    record {
      put : HasPut (g.S.Sink.state l.initial.sink) (g.S.Sink.state l.sink) (flat_map f (take l.told (range_with_len 1 (length (entries day l.b)))));
      left : Left f (length (entries day l.b)) l.told (drop l.key-index l.keys);
    }
