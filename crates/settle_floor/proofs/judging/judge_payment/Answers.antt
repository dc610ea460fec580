-- A payment has no entries.
use Rattle.std.proofs.Common.{arith, refl}
use Rattle.machine.specs.Records.Messages.{sort_of}
use Rattle.settle_floor.proofs.JudgingFacts.{no_book, not_zero, other_entry}
use Rattle.settle_floor.proofs.judging.judge_payment.Goals as goal

pub returns-else-k-eq0 : goal.returns-else-k-eq0
returns-else-k-eq0 g c = (
  no_book (g.D.Desk.day c.args.desk.now) (g.D.Desk.past c.args.desk.now) c.args.n c.args.k c.no_such.result
      (other_entry (sort_of (g.D.Desk.day c.args.desk.now) c.args.n) c.args.k c.requires.pay (not_zero c.args.k (λ e. omega arith))) c.no_such.ensures,
  refl,
)
