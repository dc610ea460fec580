use Rattle.std.proofs.Common.{arith}
use Rattle.rule_book.proofs.RowLemmas.{spot_no, spot_none, spot_past, spot_yes}
use Rattle.rule_book.proofs.rows.spot.Goals as goal
use Rattle.rule_book.proofs.rows.spot.Goals.{then-n-eq0-via-then-n-eq0, then-n-eq0-via-else-n-eq0+then-n-ends}

pub returns-then-n-eq0 : goal.returns-then-n-eq0
returns-then-n-eq0 c = elim c.then-n-eq0.branch [
  | then-n-eq0-via-then-n-eq0 w ↦ spot_none c.args.ends.now c.args.n c.args.k w.if-n-eq0.true
  | then-n-eq0-via-else-n-eq0+then-n-ends w ↦ spot_past c.args.ends.now c.args.n c.args.k (omega (arith, w.if-n-ends.true))
]

pub returns-then-k-size : goal.returns-then-k-size
returns-then-k-size c = spot_yes c.args.ends.now c.args.n c.args.k _ _ c.if-n-eq0.false c.if-n-ends.false c.start_of-start.ensures c.saturating_sub-size.ensures c.if-k-size.true

pub returns-else-k-size : goal.returns-else-k-size
returns-else-k-size c = spot_no c.args.ends.now c.args.n c.args.k _ _ c.if-n-eq0.false c.if-n-ends.false c.start_of-start.ensures c.saturating_sub-size.ensures c.if-k-size.false
