use Rattle.lock_book.proofs.Catching.{Carries}
use Rattle.lock_book.proofs.group.carry_all.Given as goal

abbrev pub invariant-loop-one : goal.invariant-loop-one
invariant-loop-one g l = Carries g.row.NUMBER l.initial.balances.items l.balances.items l.moves l.one-index
