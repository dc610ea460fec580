use Rattle.std.proofs.Common.{◌∙◌, ap, refl}
use Rattle.std.specs.Prelude.{option_map}
use Rattle.batch_records.specs.declared.day.Entry.{Entry}
use Rattle.commit_journal.specs.declared.line.Move.{Move}
use Rattle.machine.specs.Records.Messages.{debit_account, move_of, transfer}
use Rattle.machine.specs.Stages.Intake.{is_locked}
use Rattle.rule_book.proofs.MoveFacts.{no_move, of_move}
use Rattle.settle_floor.proofs.codes.leaves_locked.Goals as goal

pub returns-in-Some : goal.returns-in-Some
returns-in-Some g c =
    let day = g.D.Desk.day c.args.desk.now in
    let past = g.D.Desk.past c.args.desk.now in
    let found = c.in-Some.ensures ∙ ap (λ d. option_map (move_of d) (transfer d c.args.n)) c.setting.ensures in
    c.is_locked.ensures
    ∙ of_move day (transfer day c.args.n) c.in-Some.found (λ (e : Entry). is_locked day past (debit_account day e)) (λ (m : Move). is_locked day past m.debit) (λ e. refl) found

pub returns-in-None : goal.returns-in-None
returns-in-None g c =
    let day = g.D.Desk.day c.args.desk.now in
    no_move day (transfer day c.args.n) _ (c.in-None.ensures ∙ ap (λ d. option_map (move_of d) (transfer d c.args.n)) c.setting.ensures)
