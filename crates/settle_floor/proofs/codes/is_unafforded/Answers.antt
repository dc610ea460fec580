use Rattle.std.proofs.Common.{◌∙◌, ◌+◌, ap, false, refl}
use Rattle.std.specs.Prelude.{nat_lt, option_map}
use Rattle.batch_records.specs.declared.day.Entry.{Entry}
use Rattle.commit_journal.specs.declared.line.Move.{Move}
use Rattle.machine.specs.Records.Messages.{debit_account, move_of, transfer}
use Rattle.machine.specs.Records.Reserves.{kept}
use Rattle.machine.specs.Telling.Balances.{balance}
use Rattle.rule_book.proofs.MoveFacts.{no_move, of_move}
use Rattle.settle_floor.proofs.FormFacts.{debit_held}
use Rattle.settle_floor.proofs.codes.is_unafforded.Goals as goal

pub is_below-requires : goal.is_below-requires
is_below-requires g c =
    debit_held (g.D.Desk.held c.args.desk.now) (g.D.Desk.day c.args.desk.now) c.args.n c.in-Some.found c.requires.transfer c.requires.formed c.requires.held
    (c.in-Some.ensures ∙ ap (λ d. option_map (move_of d) (transfer d c.args.n)) c.setting.ensures)

pub returns-in-Some : goal.returns-in-Some
returns-in-Some g c =
    let day = g.D.Desk.day c.args.desk.now in
    let past = g.D.Desk.past c.args.desk.now in
    let found = c.in-Some.ensures ∙ ap (λ d. option_map (move_of d) (transfer d c.args.n)) c.setting.ensures in
    c.is_below.ensures
    ∙ of_move day (transfer day c.args.n) c.in-Some.found
    (λ (e : Entry). nat_lt (balance day past (debit_account day e)) (e.amount + kept day (debit_account day e) false))
    (λ (m : Move). nat_lt (balance day past m.debit) (m.amount + kept day m.debit false)) (λ e. refl) found

pub returns-in-None : goal.returns-in-None
returns-in-None g c =
    let day = g.D.Desk.day c.args.desk.now in
    no_move day (transfer day c.args.n) _ (c.in-None.ensures ∙ ap (λ d. option_map (move_of d) (transfer d c.args.n)) c.setting.ensures)
