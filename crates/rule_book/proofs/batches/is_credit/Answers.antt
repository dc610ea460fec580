use Rattle.std.proofs.Common.{◌∙◌, ap}
use Rattle.std.specs.Prelude.{not}
use Rattle.machine.specs.Records.Messages.{entry_at, technical_of}
use Rattle.rule_book.specs.Moves.{goes_to}
use Rattle.rule_book.proofs.MoveFacts.{above_zero, no_side, pays_not}
use Rattle.rule_book.proofs.batches.is_credit.Goals as goal

pub returns-in-Some : goal.returns-in-Some
returns-in-Some c =
    let day = c.args.setting.now.day in
    ap not (c.goes_to.ensures ∙ ap (λ t. goes_to t c.in-Some.found) c.technical_of.ensures) ∙ pays_not day (technical_of day c.args.n) (above_zero day c.args.n) c.in-Some.found (entry_at day c.args.n c.args.k) c.in-Some.ensures

pub returns-in-None : goal.returns-in-None
returns-in-None c =
    let day = c.args.setting.now.day in
    no_side day (technical_of day c.args.n) (above_zero day c.args.n) (entry_at day c.args.n c.args.k) _ c.in-None.ensures
