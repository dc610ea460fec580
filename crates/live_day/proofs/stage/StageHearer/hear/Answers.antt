use Rattle.live_day.proofs.stage.StageHearer.hear.Goals as goal

pub returns-in-Ok-true-clause-told : goal.returns-in-Ok-true-clause-told
returns-in-Ok-true-clause-told g c = λ records r at next.
    let told = c.in-Ok-true.ensures.told records r at next in
    (told.0, told.1, record { ok = told.2.ok; err = tt })

pub returns-in-Ok-false-clause-told : goal.returns-in-Ok-false-clause-told
returns-in-Ok-false-clause-told g c = λ records r at next.
    let told = c.in-Ok-false.ensures.told records r at next in
    (told.0, told.1, record { ok = told.2.ok; err = tt })

pub returns-in-Err-clause-told : goal.returns-in-Err-clause-told
returns-in-Err-clause-told g c = λ records r at next.
    let told = c.in-Err.ensures.told records r at next in
    (told.0, told.1, record { ok = tt; err = told.2.err })
