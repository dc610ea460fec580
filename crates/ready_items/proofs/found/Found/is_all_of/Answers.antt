use Rattle.std.proofs.Common.{◌∙◌, ap, map}
use Rattle.std.specs.Prelude.{filter}
use Rattle.std.specs.List.{list_all}
use Rattle.commit_journal.specs.declared.line.Move.{Move}
use Rattle.rule_book.specs.Moves.{goes_to}
use Rattle.rule_book.proofs.MoveFacts.{debtors_are}
use Rattle.ready_items.specs.Found.{is_candidate}
use Rattle.ready_items.proofs.found.Found.is_all_of.Goals as goal

pub returns : goal.returns
returns c =
    let day = c.args.setting.now.day in
    let all = list_all (is_candidate c.args.self.now c.args.y) in
    c.is_all_in.ensures
    ∙ (λ i. all (map (λ (m : Move). m.debit) (filter (goes_to (c.technical_of.ensures i)) (c.entry_moves.ensures i))))
    ∙ ap all (debtors_are day c.args.n)
