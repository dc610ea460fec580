use Rattle.std.proofs.Common.{◌∙◌, length, arith}
use Rattle.row_list.proofs.CutLemmas.{begins_within, ends_within, no_row, row_is}
use Rattle.row_list.proofs.rows.row_in.Goals as goal

pub returns-then-i-ends : goal.returns-then-i-ends
returns-then-i-ends g c = no_row c.args.ends.now c.args.i c.args.items.now (omega (arith, c.if-i-ends.true))

pub between-requires-clause-first : goal.between-requires-clause-first
between-requires-clause-first g c = rw c.start_of-start.ensures (begins_within 0 c.args.ends.now (length c.args.items.now) c.args.i c.requires (omega (arith, c.if-i-ends.false)))

pub between-requires-clause-last : goal.between-requires-clause-last
between-requires-clause-last g c = ends_within 0 c.args.ends.now (length c.args.items.now) c.args.i c.requires (omega (arith, c.if-i-ends.false))

pub returns : goal.returns
returns g c = c.between.ensures ∙ rw c.start_of-start.ensures (row_is c.args.ends.now (length c.args.items.now) c.args.i c.args.items.now c.requires (omega (arith, c.if-i-ends.false)))
