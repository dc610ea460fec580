use Rattle.settle_floor.proofs.Carrying.{Carries}
use Rattle.settle_floor.proofs.carry.carry_out.Given as goal

abbrev pub invariant-loop-one : goal.invariant-loop-one
invariant-loop-one g l = Carries (g.T.Holdings.holdings l.initial.till) (g.T.Holdings.holdings l.till) l.moves l.one-index
