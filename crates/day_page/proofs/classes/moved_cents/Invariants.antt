use Rattle.std.proofs.Common.{◌≡◌, ◌≤◌, ◌*◌, ◌^◌, take}
use Rattle.std.specs.Prelude.{sum_by}
use Rattle.commit_journal.specs.declared.line.Move.{Move}
use Rattle.day_page.proofs.classes.moved_cents.Given as goal

abbrev pub invariant-loop-one : goal.invariant-loop-one
invariant-loop-one l = record {
  sum : l.sum ≡ sum_by (λ (m : Move). m.amount) (take l.one-index l.moves);
  small : l.sum ≤ 10 ^ 18 * l.one-index;
}
