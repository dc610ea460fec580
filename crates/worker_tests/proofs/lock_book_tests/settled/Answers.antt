use Rattle.std.proofs.Common.{◌∙◌}
use Rattle.worker_tests.proofs.lock_book_tests.settled.Goals as goal

pub books_all-booked-requires-clause-taken : goal.books_all-booked-requires-clause-taken
books_all-booked-requires-clause-taken g c = c.take_first.ensures.taken c.if-not-take_first.false

pub returns : goal.returns
returns g c = record { nine = c.close-journal.ensures.count ∙ c.is_small.ensures.accounts c.if-not-is_small.false }
