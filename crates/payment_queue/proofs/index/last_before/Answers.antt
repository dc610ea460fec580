use Rattle.std.proofs.Common.{◌≤◌, ap, sym, ◌∙◌, arith}
use Rattle.payment_queue.specs.declared.row.Row.{Row}
use Rattle.payment_queue.specs.Standing.{is_earlier}
use Rattle.payment_queue.specs.Indexed.{key, position, row_at}
use Rattle.payment_queue.proofs.ChainLemmas.{start, onward}
use Rattle.payment_queue.proofs.IndexLemmas.{later_key}
use Rattle.payment_queue.proofs.index.last_before.Goals as goal

pub loop-at-init : goal.loop-at-init
loop-at-init c = rw c.step-at.ensures (start _ _ _ _ c.requires.backward c.args.band _)

pub loop-at-preserved : goal.loop-at-preserved
loop-at-preserved c =
    let inv = rw c.in-Some.is at c.loop-at.invariant in
    let later : key c.args.place ≤ position c.args.rows.now c.in-Some.slot =
    later_key (row_at c.args.rows.now c.in-Some.slot).place c.args.place (c.requires.sound.places c.in-Some.slot) c.requires.small
    (ap (λ (r : Row). is_earlier r.place c.args.place) (sym c.row_at.ensures) ∙ sym c.if-is_earlier.ensures) in
    rw c.step-at-in-Some.ensures (onward _ _ _ _ c.requires.backward c.args.band _ c.in-Some.slot inv (omega arith))
