use Rattle.std.proofs.Common.{◌∙◌, ◌+◌, ap, arith, sym}
use Rattle.growing_set.specs.Growing.{Growing}
use Rattle.live_order.specs.Coming.{setup}
use Rattle.scan_laws.proofs.Sizes.{number-first, number-last}
use Rattle.ready_items.specs.Found.{Found}
use Rattle.ready_items.specs.Normals.{Normals}
use Rattle.ready_items.proofs.EmptyFacts.{no_payments, none_keeps}
use Rattle.ready_items.proofs.ready.ReadyItems.empty.Goals as goal

pub returns-clause-empty : goal.returns-clause-empty
returns-clause-empty c = λ day few.
    let first = number-first (setup day) in
    let last = number-last (setup day) in
    none_keeps (setup day) c.in_ok-normals.normals _ _ _ _ 0 (c.args.messages + c.args.entries)
    (no_payments (setup day) (c.args.accounts + 1) c.args.messages c.in_ok-normals.normals c.in_ok-normals.ensures (omega (arith, few)))
    (λ n is. let low = is.first in let high = is.last in absurd (omega (arith, low, high)))
    (ap (λ (s : Growing). s.set) c.in_ok-alone.ensures) c.in_ok-found.ensures c.in_ok-touched.ensures (sym first ∙ last) (omega (arith, few))

pub returns-clause-room : goal.returns-clause-room
returns-clause-room c =
    let rows = ap (λ (v : Normals). v.room) c.in_ok-normals.ensures in
    let items = ap (λ (f : Found). f.room) c.in_ok-found.ensures in
    record { rows = omega (arith, rows); items = omega (arith, items) }
