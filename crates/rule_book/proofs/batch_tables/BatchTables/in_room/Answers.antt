use Rattle.std.proofs.Common.{◌∙◌, []}
use Rattle.rule_book.specs.Parties.{owner_numbers}
use Rattle.rule_book.proofs.ComingFacts.{new_tables_room, tables_of_nothing}
use Rattle.rule_book.proofs.batch_tables.BatchTables.in_room.Goals as goal

pub returns-clause-tabled : goal.returns-clause-tabled
returns-clause-tabled c =
    tables_of_nothing c.args.day.now (record { debts = c.args.debts; parties = c.in_room-parties.result }) c.args.debts.most c.args.room.most c.requires.none c.requires.nothing c.in_room-parties.ensures

pub returns-clause-room : goal.returns-clause-room
returns-clause-room c = λ entries owed keys.
    new_tables_room entries (owner_numbers c.args.day.now) (record { debts = c.args.debts; parties = c.in_room-parties.result }) (c.requires.nothing ∙ (λ i. record { keys = []; sums = []; most = owed i }))
    (c.in_room-parties.ensures ∙ (λ i. record { keys = []; numbers = owner_numbers c.args.day.now; most = keys i }))
