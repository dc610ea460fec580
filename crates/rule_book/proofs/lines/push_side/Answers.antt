use Rattle.std.proofs.Common.{◌∙◌, ◌++◌, List, ap, length, arith}
use Rattle.std.specs.Prelude.{filter}
use Rattle.commit_journal.specs.declared.line.Move.{Move}
use Rattle.rule_book.specs.Moves.{goes_on_side}
use Rattle.rule_book.proofs.MoveFacts.{sided, sided_count}
use Rattle.rule_book.proofs.lines.push_side.Goals as goal

pub push_sided-requires : goal.push_sided-requires
push_sided-requires c =
    let day = c.args.setting.now.day in
    let same = (λ i. length (filter (goes_on_side c.args.debits (c.technical_of.ensures i)) (c.entry_moves.ensures i))) ∙ sided_count c.args.debits day c.args.n in
    omega (arith, same, c.requires)

pub returns-clause-made : goal.returns-clause-made
returns-clause-made c =
    let day = c.args.setting.now.day in
    let same = (λ i. filter (goes_on_side c.args.debits (c.technical_of.ensures i)) (c.entry_moves.ensures i)) ∙ sided c.args.debits day c.args.n in
    c.push_sided.ensures.made ∙ ap (λ (ms : List Move). c.args.moves.now.moves ++ ms) same

pub returns-clause-room : goal.returns-clause-room
returns-clause-room c =
    let day = c.args.setting.now.day in
    let same = (λ i. length (filter (goes_on_side c.args.debits (c.technical_of.ensures i)) (c.entry_moves.ensures i))) ∙ sided_count c.args.debits day c.args.n in
    omega (arith, same, c.push_sided.ensures.room)
