use Rattle.journal_reading.proofs.Judging.{legal_read, says_read}
use Rattle.journal_reading.proofs.telling.answer_rest.Goals as goal

pub answer_journal-requires : goal.answer_journal-requires
answer_journal-requires g c = record { legal = legal_read c.args.setting.now.day c.args.rest c.in-Ok.journal.history (rw c.as_slice.ensures at c.in-Ok.ensures.journal) }

pub returns-in-Ok : goal.returns-in-Ok
returns-in-Ok g c =
    says_read (g.T.Telling.told c.args.request.now) g.S.Sink.state _ _ c.args.setting.now.day c.args.rest c.in-Ok.journal.history c.in-Ok.behind.now _ (rw c.as_slice.ensures at c.in-Ok.ensures.journal) (rw c.as_slice.ensures at c.in-Ok.ensures.rest) (c.answer_journal.ensures c.in-Ok.behind.now c.is_at_end-ends.ensures)
