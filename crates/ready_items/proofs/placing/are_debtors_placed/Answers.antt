use Rattle.std.proofs.Common.{◌∙◌, ap, map}
use Rattle.std.specs.Prelude.{filter}
use Rattle.std.specs.List.{list_all}
use Rattle.commit_journal.specs.declared.line.Move.{Move}
use Rattle.rule_book.specs.Moves.{goes_to}
use Rattle.rule_book.proofs.MoveFacts.{debtors_are}
use Rattle.ready_items.specs.Goes.{is_account}
use Rattle.ready_items.proofs.placing.are_debtors_placed.Goals as goal

pub returns : goal.returns
returns c =
    let day = c.args.setting.now.day in
    c.are_all_placed.ensures
    ∙ (λ i. list_all (is_account day) (map (λ (m : Move). m.debit) (filter (goes_to (c.technical_of.ensures i)) (c.entry_moves.ensures i))))
    ∙ ap (list_all (is_account day)) (debtors_are day c.args.n)
