use Rattle.std.proofs.Common.{ap}
use Rattle.due_items.specs.Index.{Index}
use Rattle.due_items.specs.Renewing.{Flags}
use Rattle.due_items.proofs.ArrivalFacts.{have_none}
use Rattle.due_items.proofs.items.DueItems.of_none.Goals as goal

pub returns-in-Ok-clause-have : goal.returns-in-Ok-clause-have
returns-in-Ok-clause-have c = λ day. have_none day _ c.args.room c.in_ok-index.ensures (ap (λ (x : Flags). x.due) c.in-Ok.ensures) (ap (λ (x : Flags). x.renewed) c.in-Ok.ensures) (ap (λ (x : Flags). x.room) c.in-Ok.ensures)

pub returns-in-Ok-clause-room : goal.returns-in-Ok-clause-room
returns-in-Ok-clause-room c = ap (λ (x : Index). x.row.room) c.in_ok-index.ensures
