use Rattle.settle_floor.proofs.indexed.Items.empty.Goals as goal

pub returns-in-Ok-empty-clause-empty : goal.returns-in-Ok-empty-clause-empty
returns-in-Ok-empty-clause-empty c = λ day few_accounts few_systems.
    (c.in_ok-pending.ensures.empty day few_accounts few_systems, c.in-Ok.ensures.empty day, c.in-Ok-empty.ensures.empty day few_accounts)
