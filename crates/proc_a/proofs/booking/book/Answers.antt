use Rattle.std.proofs.Common.{sym, ap, ◌∙◌, ◌++◌, List}
use Rattle.batch_records.specs.DayRecord.{Day}
use Rattle.commit_journal.specs.declared.line.Move.{Move}
use Rattle.commit_journal.specs.declared.line.Want.TheVariants as wants
use Rattle.machine.specs.Records.Messages.{entry_at}
use Rattle.machine.specs.Making.Lines.{moves_of_part}
use Rattle.settlement_laws.proofs.Wants.Answering.{answered-with}
use Rattle.proc_a.proofs.Reduced.{part-is}
use Rattle.proc_a.proofs.booking.book.Goals as goal

pub returns-in-None : goal.returns-in-None
returns-in-None g c =
    let day = g.D.Desk.day c.args.desk.now in
    let set = c.setting.result.now.day in
    let one = moves_of_part set (entry_at set c.args.n c.args.k) in
    let pushed = c.push_entry.ensures.moves ∙ ap (λ (ms : List Move). ms ++ one) c.requires.empty ∙ ap (λ (d : Day). moves_of_part d (entry_at d c.args.n c.args.k)) c.setting.ensures in (
      answered-with day (g.D.Desk.past c.args.desk.now) (wants.Book c.args.n c.args.k) _ _ (sym c.why_not_book.ensures ∙ c.in-None.is) (sym c.head.ensures) (ap (moves_of_part day) (part-is day c.args.n c.args.k c.requires.batch) ∙ sym pushed),
      c.push_entry.ensures.room,
    )
