use Rattle.settle_floor.proofs.indexed.Items.arrive.Goals as goal

pub returns-clause-room : goal.returns-clause-room
returns-clause-room c = λ messages more p d r. (c.arrive.ensures.room messages more p, c.arrive-2.ensures.room messages more d, c.arrive-3.ensures.room messages more r)

pub returns-clause-day : goal.returns-clause-day
returns-clause-day c = λ day m ms ss J next stay stands p d r.
    let due = c.arrive-2.ensures.day day m ms ss J next stay d in
    (c.arrive.ensures.day day m ms ss J next stay stands p, due, c.arrive-3.ensures.day day m ms ss J next stay due r)
