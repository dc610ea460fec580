use Rattle.std.proofs.Common.{◌∙◌, ap}
use Rattle.machine.specs.Records.Messages.{sender, transfer}
use Rattle.machine.specs.Stages.Intake.{payment_fits}
use Rattle.rule_book.proofs.MoveFacts.{no_move, of_move}
use Rattle.settle_floor.specs.Codes.{is_payment_move}
use Rattle.settle_floor.proofs.FormFacts.{payment_is}
use Rattle.settle_floor.proofs.codes.has_payment_form.Goals as goal

pub returns-in-Some : goal.returns-in-Some
returns-in-Some c =
    let day = c.args.setting.now.day in
    let bank = sender day c.args.n in
    c.fits_payment.ensures ∙ ap (λ s. is_payment_move day s c.in-Some.found) c.sender.ensures
    ∙ of_move day (transfer day c.args.n) c.in-Some.found (payment_fits day bank) (is_payment_move day bank) (payment_is day bank) c.in-Some.ensures

pub returns-in-None : goal.returns-in-None
returns-in-None c = no_move c.args.setting.now.day (transfer c.args.setting.now.day c.args.n) _ c.in-None.ensures
