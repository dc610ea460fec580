use Rattle.std.proofs.Common.{◌∙◌, ap, sym}
use Rattle.lock_book.specs.Needs.{above_zero, needs_of}
use Rattle.lock_book.proofs.Needing.{some_account}
use Rattle.lock_book.proofs.needs.of_number.Goals as goal

pub returns-then-a-eq0 : goal.returns-then-a-eq0
returns-then-a-eq0 c = c.none.ensures ∙ ap (λ a. needs_of (above_zero a)) (sym c.if-a-eq0.true)

pub returns-else-a-eq0 : goal.returns-else-a-eq0
returns-else-a-eq0 c = c.of_account.ensures ∙ ap needs_of (sym (some_account c.args.a c.if-a-eq0.false))
