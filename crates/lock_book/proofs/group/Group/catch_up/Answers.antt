use Rattle.std.proofs.Common.{◌∙◌}
use Rattle.lock_book.proofs.Catching.{balanced_line, line_can}
use Rattle.lock_book.proofs.group.Group.catch_up.Goals as goal

pub carry_all-requires-clause-can : goal.carry_all-requires-clause-can
carry_all-requires-clause-can g c =
    line_can g.H.HallName.day c.requires.sound c.args.journal.now.history c.requires.legal c.loop-place.place (record { head = c.line.result.0; moves = c.line.result.1.now }) c.line.ensures g.row.NUMBER c.loop-place.balances.items c.loop-place.invariant.1

pub loop-place-preserved : goal.loop-place-preserved
loop-place-preserved g c = (
  c.carry_all.ensures.count ∙ c.loop-place.invariant.0,
  balanced_line g.H.HallName.day c.requires.sound c.args.journal.now.history c.requires.legal c.loop-place.place (record { head = c.line.result.0; moves = c.line.result.1.now }) c.line.ensures g.row.NUMBER c.loop-place.balances.items c.carry_all.new.balances.items c.loop-place.invariant.1 c.carry_all.ensures.count c.carry_all.ensures.each,
)
