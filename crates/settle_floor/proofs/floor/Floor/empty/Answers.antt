use Rattle.settle_floor.proofs.RoomFacts.{empty_fits}
use Rattle.settle_floor.proofs.floor.Floor.empty.Goals as goal

pub returns-clause-opened : goal.returns-clause-opened
returns-clause-opened c = λ day few_accounts few_systems.
    empty_fits day c.args.messages c.args.entries c.args.accounts _ few_accounts c.in_ok-lines.ensures.journal c.in_ok-lines.ensures.places (c.in_ok-lines.ensures.index day few_accounts few_systems)
