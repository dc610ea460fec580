use Rattle.std.proofs.Common.{◌∙◌}
use Rattle.std.specs.Prelude.{filter, nat_eq, sum_by}
use Rattle.commit_journal.specs.declared.line.Move.{Move}
use Rattle.rule_book.specs.Moves.{goes_to, moved_amount}
use Rattle.rule_book.proofs.MoveFacts.{taken_is}
use Rattle.rule_book.proofs.batches.walked_gross.Goals as goal

pub returns : goal.returns
returns c =
    c.taken_from.ensures
    ∙ (λ i. sum_by moved_amount (filter (λ (m : Move). nat_eq m.debit c.args.a) (filter (goes_to (c.technical_of.ensures i)) (c.entry_moves.ensures i))))
    ∙ taken_is c.args.setting.now.day c.args.n c.args.a
