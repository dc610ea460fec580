use Rattle.std.proofs.Common.{◌∙◌}
use Rattle.std.specs.List.{list_all}
use Rattle.rule_book.specs.Moves.{joins}
use Rattle.rule_book.proofs.MoveFacts.{all_join_is}
use Rattle.rule_book.proofs.batches.all_join_technical.Goals as goal

pub returns : goal.returns
returns c =
    let day = c.args.setting.now.day in
    c.all_join.ensures ∙ (λ i. list_all (joins day (c.technical_of.ensures i)) (c.entry_moves.ensures i)) ∙ all_join_is day c.args.n
