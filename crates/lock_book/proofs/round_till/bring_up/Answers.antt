use Rattle.cash_amounts.specs.Numbers.{numbered}
use Rattle.lock_book.proofs.Rounding.{all_after, line_kept, line_moves}
use Rattle.lock_book.proofs.round_till.bring_up.Goals as goal

pub carry_out-requires : goal.carry_out-requires
carry_out-requires g c =
    line_moves g.H.HallName.day c.requires.sound c.args.journal.now.history c.requires.legal c.loop-place.place (record { head = c.line.result.0; moves = c.line.result.1.now }) c.line.ensures (numbered c.loop-place.till) c.loop-place.invariant.0 c.loop-place.invariant.1

pub loop-place-preserved : goal.loop-place-preserved
loop-place-preserved g c = (
  all_after g.H.HallName.day (numbered c.loop-place.till) (numbered c.carry_out.new.till) c.line.result.1.now c.loop-place.invariant.0 c.carry_out.ensures,
  line_kept g.H.HallName.day c.requires.sound c.args.journal.now.history c.requires.legal c.loop-place.place (record { head = c.line.result.0; moves = c.line.result.1.now }) c.line.ensures (numbered c.loop-place.till) c.loop-place.invariant.0 c.loop-place.invariant.1 (numbered c.carry_out.new.till) c.carry_out.ensures,
)
