use Rattle.std.proofs.Common.{◌∙◌}
use Rattle.lock_book.specs.Needs.{above_zero, either}
use Rattle.lock_book.proofs.Needing.{needs_joined}
use Rattle.lock_book.proofs.needs.of_move.Goals as goal

pub returns : goal.returns
returns c = c.either.ensures ∙ (λ j. either (c.of_number.ensures j) (c.of_number-2.ensures j)) ∙ needs_joined (above_zero c.args.found.now.debit) (above_zero c.args.found.now.credit)
