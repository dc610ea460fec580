use Rattle.outside_io.specs.Pieces.{HasPut}
use Rattle.commit_journal.specs.Histories.{oldest}
use Rattle.commit_journal.specs.Text.{journal_text}
use Rattle.commit_journal.proofs.text.put_journal.Given as goal

abbrev pub invariant-loop-before : goal.invariant-loop-before
invariant-loop-before g l =
    HasPut (g.S.Sink.state l.initial.sink) (g.S.Sink.state l.sink) (journal_text (oldest l.journal.history l.before))
