-- Without a reason the want has its line, with the move of the entry.
use Rattle.std.proofs.Common.{◌≡◌, ◌∙◌, ◌++◌, List, Some, refl, sym, ap}
use Rattle.commit_journal.specs.declared.line.Move.{Move}
use Rattle.machine.specs.Making.Lines.{moves_of_part}
use Rattle.machine.specs.Records.Messages.{entry_at}
use Rattle.proc_c.proofs.WantTables.{book_line_is, why_book_is}
use Rattle.proc_c.proofs.booking.book.Goals as goal

pub returns-in-Some : goal.returns-in-Some
returns-in-Some g c = (why_book_is _ _ c.args.n c.args.k c.requires.batch ∙ sym c.why_not_book.ensures ∙ c.in-Some.is, refl)

pub returns-in-None : goal.returns-in-None
returns-in-None g c =
    let day = g.D.Desk.day c.args.desk.now in
    let set = c.setting.result.now.day in
    let one = moves_of_part set (entry_at set c.args.n c.args.k) in
    let moved : c.push_entry.new.moves.moves ≡ moves_of_part day (entry_at day c.args.n c.args.k) =
    c.push_entry.ensures.moves ∙ ap (λ (ms : List Move). ms ++ one) c.requires.empty ∙ ap (λ d. moves_of_part d (entry_at d c.args.n c.args.k)) c.setting.ensures in (
      book_line_is day (g.D.Desk.past c.args.desk.now) c.args.n c.args.k c.requires.batch (sym c.why_not_book.ensures ∙ c.in-None.is) ∙ (λ i. Some (record { head = sym c.head.ensures i; moves = sym moved i })),
      c.push_entry.ensures.room,
    )
