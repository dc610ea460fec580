use Rattle.due_items.specs.Renewing.{IsBelow, RenewsBy}
use Rattle.due_items.proofs.renewing.renew_all.Given as goal

abbrev pub invariant-loop-n : goal.invariant-loop-n
invariant-loop-n l = RenewsBy l.setting.day l.facts l.index (λ K. IsBelow l.n) l.initial.flags l.flags
