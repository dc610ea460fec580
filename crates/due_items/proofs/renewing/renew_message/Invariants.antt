use Rattle.due_items.specs.Renewing.{IsOfBelow, RenewsBy}
use Rattle.due_items.proofs.renewing.renew_message.Given as goal

abbrev pub invariant-loop-k : goal.invariant-loop-k
invariant-loop-k l = RenewsBy l.setting.day l.facts l.index (λ K. IsOfBelow l.n l.k) l.initial.flags l.flags
