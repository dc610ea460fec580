-- What is known of the want is known of the message that it names.
use Rattle.std.proofs.Common.{subst}
use Rattle.settle_floor.specs.Taking.{IsNext}
use Rattle.settle_floor.proofs.judging.judge_any.Goals as goal

pub judge_in-requires-clause-next : goal.judge_in-requires-clause-next
judge_in-requires-clause-next g c = λ known. subst (IsNext (g.D.Desk.day c.args.desk.now) (g.D.Desk.past c.args.desk.now)) c.in-In.is (c.requires.next known)
