use Rattle.settle_floor.proofs.indexed.Indexed.empty.Goals as goal

pub returns-in-Ok-clause-index : goal.returns-in-Ok-clause-index
returns-in-Ok-clause-index c = λ day few_accounts few_systems.
    let told = c.in_ok-told.ensures.empty day few_systems in
    let items = c.in-Ok.ensures.empty day few_accounts few_systems in
    record { stands = told.0; queued = items.0; due = items.1; ready = items.2; stops = told.1 }
