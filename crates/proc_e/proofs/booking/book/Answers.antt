-- Without a reason the want has its line, with the move of the entry.
use Rattle.std.proofs.Common.{◌≡◌, ◌∙◌, ◌++◌, List, sym, ap}
use Rattle.commit_journal.specs.declared.line.Move.{Move}
use Rattle.machine.specs.Making.Lines.{moves_of_part}
use Rattle.machine.specs.Records.Messages.{entry_at}
use Rattle.proc_e.proofs.Reasons.{book_line-is}
use Rattle.proc_e.proofs.booking.book.Goals as goal

pub returns-in-None : goal.returns-in-None
returns-in-None g c =
    let set = c.setting.result.now.day in
    let one = moves_of_part set (entry_at set c.args.n c.args.k) in
    let moved : c.push_entry.new.moves.moves ≡ moves_of_part (g.D.Desk.day c.args.desk.now) (entry_at (g.D.Desk.day c.args.desk.now) c.args.n c.args.k) =
    c.push_entry.ensures.moves ∙ ap (λ (ms : List Move). ms ++ one) c.requires.empty ∙ ap (λ d. moves_of_part d (entry_at d c.args.n c.args.k)) c.setting.ensures in
    (book_line-is _ _ _ _ _ _ c.requires.batch (sym c.why_not_book.ensures ∙ c.in-None.is) c.head.ensures moved, c.push_entry.ensures.room)
