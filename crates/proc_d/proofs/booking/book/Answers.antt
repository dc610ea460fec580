use Rattle.std.proofs.Common.{◌∙◌, ◌++◌, List, ap, arith}
use Rattle.commit_journal.specs.declared.line.Move.{Move}
use Rattle.machine.specs.Records.Messages.{entries}
use Rattle.rule_book.proofs.Debits.{count}
use Rattle.proc_d.specs.Booked.{afforded}
use Rattle.proc_d.proofs.OfMoves.{afforded_is}
use Rattle.proc_d.proofs.booking.book.Goals as goal

pub book_moves-requires : goal.book_moves-requires
book_moves-requires c = omega (arith, count c.args.setting.now.day c.args.n c.entry_moves.result.now c.entry_moves.ensures, c.requires)

pub returns-clause-moves : goal.returns-clause-moves
returns-clause-moves c =
    let day = c.args.setting.now.day in
    c.book_moves.ensures.moves
    ∙ ap (λ (ms : List Move). c.args.moves.now.moves ++ ms) (ap (afforded c.args.available) c.entry_moves.ensures ∙ afforded_is day c.args.available (entries day c.args.n))
