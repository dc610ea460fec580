use Rattle.std.proofs.Common.{◌∙◌, ◌||◌, Some, ap, arith, sym}
use Rattle.number_set.specs.Members.{has}
use Rattle.machine.specs.Words.{same_account}
use Rattle.status_messages.proofs.Called.{leads_within}
use Rattle.status_messages.proofs.Entered.{entered}
use Rattle.status_messages.proofs.banks.enter.Goals as goal

pub insert-requires : goal.insert-requires
insert-requires c =
    let low = leads_within c.args.setting.now.day (Some c.args.account) c.in-Some.a (sym c.in-Some.ensures) in
    omega (arith, low, c.requires)

pub returns-in-Some-clause-each : goal.returns-in-Some-clause-each
returns-in-Some-clause-each c =
    let low = leads_within c.args.setting.now.day (Some c.args.account) c.in-Some.a (sym c.in-Some.ensures) in
    λ a. entered c.args.banks.now c.insert.new.self c.in-Some.a a (omega (arith, low, c.requires)) c.insert.ensures
    ∙ ap (λ o. has c.args.banks.now a || same_account o (Some a)) c.in-Some.ensures
