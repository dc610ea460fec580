use Rattle.std.proofs.Common.{◌-◌, arith}
use Rattle.day_chain.specs.Summing.{more_credits}
use Rattle.day_chain.proofs.Changes.{changed-none, changed-past, changed-set, room_at}
use Rattle.day_chain.proofs.sums.credit.Goals as goal
use Rattle.day_chain.proofs.sums.credit.Goals.{then-a-eq0-via-then-a-eq0, then-a-eq0-via-else-a-eq0+then-a-sums}

pub returns-then-a-eq0 : goal.returns-then-a-eq0
returns-then-a-eq0 c = elim c.then-a-eq0.branch [
  | then-a-eq0-via-then-a-eq0 w ↦ changed-none c.args.a (more_credits c.args.amount) c.args.sums.now w.if-a-eq0.true
  | then-a-eq0-via-else-a-eq0+then-a-sums w ↦ changed-past c.args.a (more_credits c.args.amount) c.args.sums.now (omega (arith, w.if-a-sums.true))
]

pub credit-requires : goal.credit-requires
credit-requires c =
    let room = room_at 1 (c.args.a - 1) c.args.sums.now (record { opening = 0; debits = 0; credits = 0; aside = 0 }) c.requires.room (omega (arith, c.if-a-eq0.false, c.if-a-sums.false)) in
    omega (arith, room.credits, c.requires.small)

pub returns : goal.returns
returns c = changed-set c.args.a (more_credits c.args.amount) c.args.sums.now _ _ c.if-a-eq0.false c.if-a-sums.false c.credit.ensures
