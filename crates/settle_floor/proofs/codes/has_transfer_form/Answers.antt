use Rattle.std.proofs.Common.{◌∙◌, ap}
use Rattle.machine.specs.Records.Messages.{sender, transfer}
use Rattle.machine.specs.Stages.Intake.{liquidity_fits}
use Rattle.rule_book.proofs.MoveFacts.{no_move, of_move}
use Rattle.settle_floor.specs.Codes.{is_liquidity_move}
use Rattle.settle_floor.proofs.FormFacts.{transfer_is}
use Rattle.settle_floor.proofs.codes.has_transfer_form.Goals as goal

pub returns-in-Some : goal.returns-in-Some
returns-in-Some c =
    let day = c.args.setting.now.day in
    let bank = sender day c.args.n in
    c.fits_transfer.ensures ∙ ap (λ s. is_liquidity_move day s c.in-Some.found) c.sender.ensures
    ∙ of_move day (transfer day c.args.n) c.in-Some.found (liquidity_fits day bank) (is_liquidity_move day bank) (transfer_is day bank) c.in-Some.ensures

pub returns-in-None : goal.returns-in-None
returns-in-None c = no_move c.args.setting.now.day (transfer c.args.setting.now.day c.args.n) _ c.in-None.ensures
