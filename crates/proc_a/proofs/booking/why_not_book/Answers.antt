use Rattle.std.proofs.Common.{Some, None, sym, ap, ◌∙◌}
use Rattle.batch_records.specs.DayRecord.{Day}
use Rattle.machine.specs.Records.Messages.{entry_at}
use Rattle.proc_a.proofs.Entries.{held-there, pending-there, reasons-first, reasons-then}
use Rattle.proc_a.proofs.booking.why_not_book.Goals as goal

pub returns-in-Some : goal.returns-in-Some
returns-in-Some g c = sym (reasons-first _ _ c.args.n c.args.k _ c.requires.batch (sym c.why_not_pending.ensures ∙ c.in-Some.is))

pub why_entry_waits-requires-clause-pending : goal.why_entry_waits-requires-clause-pending
why_entry_waits-requires-clause-pending g c =
    let at = ap (λ (d : Day). entry_at d c.args.n c.args.k) (sym c.setting.ensures) ∙ c.in-Some-entry.ensures in
    pending-there _ _ c.args.n c.args.k c.in-Some-entry.entry.now c.requires.batch at (sym c.why_not_pending.ensures ∙ c.in_default.is)

pub why_entry_waits-requires-clause-held : goal.why_entry_waits-requires-clause-held
why_entry_waits-requires-clause-held g c =
    let at = ap (λ (d : Day). entry_at d c.args.n c.args.k) (sym c.setting.ensures) ∙ c.in-Some-entry.ensures in
    held-there _ _ _ c.args.n c.args.k c.in-Some-entry.entry.now (g.D.Desk.legal c.args.desk.now) c.requires.batch at (sym c.why_not_pending.ensures ∙ c.in_default.is) c.requires.held

pub returns-in-Some-entry : goal.returns-in-Some-entry
returns-in-Some-entry g c =
    let at = ap (λ (d : Day). entry_at d c.args.n c.args.k) (sym c.setting.ensures) ∙ c.in-Some-entry.ensures in
    c.why_entry_waits.ensures ∙ sym (reasons-then _ _ c.args.n c.args.k (Some c.in-Some-entry.entry.now) c.requires.batch (sym c.why_not_pending.ensures ∙ c.in_default.is) at)

pub returns-in-None : goal.returns-in-None
returns-in-None g c =
    let at = ap (λ (d : Day). entry_at d c.args.n c.args.k) (sym c.setting.ensures) ∙ c.in-None.ensures in
    sym (reasons-then _ _ c.args.n c.args.k None c.requires.batch (sym c.why_not_pending.ensures ∙ c.in_default.is) at)
