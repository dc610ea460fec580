use Rattle.std.proofs.Common.{◌∙◌, ap}
use Rattle.rule_book.specs.Moves.{row_in}
use Rattle.rule_book.proofs.MoveFacts.{row_is}
use Rattle.rule_book.proofs.parts.entry_moves.Goals as goal

pub returns : goal.returns
returns c =
    let setting = c.args.setting.now in
    c.entries.ensures ∙ ap (λ m. row_in m.rows c.args.n) setting.found_out.1.0 ∙ row_is setting.day c.args.n
