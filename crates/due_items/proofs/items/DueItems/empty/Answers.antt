use Rattle.std.proofs.Common.{[], ap, arith, refl}
use Rattle.live_order.specs.Coming.{setup}
use Rattle.due_items.specs.declared.row.Room.{Room}
use Rattle.due_items.proofs.ArrivalFacts.{have_all}
use Rattle.due_items.proofs.items.DueItems.empty.Goals as goal

pub returns-clause-empty : goal.returns-clause-empty
returns-clause-empty c = λ day. have_all (setup day) [] 0 c.in_ok-due.due refl (c.in_ok-due.ensures.have (setup day))

pub returns-clause-room : goal.returns-clause-room
returns-clause-room c =
    let messages = ap (λ (r : Room). r.messages) c.in_ok-due.ensures.room in
    let items = ap (λ (r : Room). r.items) c.in_ok-due.ensures.room in
    record { rows = omega (arith, messages); items = omega (arith, items) }
