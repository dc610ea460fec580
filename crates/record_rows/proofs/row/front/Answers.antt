use Rattle.std.proofs.Common.{arith, sym}
use Rattle.record_rows.proofs.KeptFacts.{kept_long, kept_short}
use Rattle.record_rows.proofs.row.front.Goals as goal

pub slice_bounds-result-end : goal.slice_bounds-result-end
slice_bounds-result-end c = sym (kept_long c.args.text.now (omega (arith, c.if-text-le64.false)))

pub returns-then-text-le64-clause-value : goal.returns-then-text-le64-clause-value
returns-then-text-le64-clause-value c = kept_short c.args.text.now c.if-text-le64.true

pub returns-else-text-le64-clause-few : goal.returns-else-text-le64-clause-few
returns-else-text-le64-clause-few c = omega (arith, kept_long c.args.text.now (omega (arith, c.if-text-le64.false)))
