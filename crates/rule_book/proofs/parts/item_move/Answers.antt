use Rattle.std.proofs.Common.{◌∙◌, ap}
use Rattle.rule_book.specs.Moves.{move_in}
use Rattle.rule_book.proofs.MoveFacts.{moved_at}
use Rattle.rule_book.proofs.parts.item_move.Goals as goal

pub returns : goal.returns
returns c =
    let setting = c.args.setting.now in
    c.at.ensures ∙ ap (λ m. move_in m c.args.n c.args.k) setting.found_out.1.0 ∙ moved_at setting.day c.args.n c.args.k
