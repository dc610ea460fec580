use Rattle.std.proofs.Common.{◌≡◌, Bool, true, false, not, Option, Some, None, refl, sym, ap, ◌∙◌}
use Rattle.std.specs.Prelude.{is_none, is_some}
use Rattle.batch_records.specs.DayRecord.{Day}
use Rattle.machine.specs.Records.Messages.{entry_at}
use Rattle.machine.specs.declared.answers.Why.{Why}
use Rattle.proc_a.proofs.Entries.{held-in_batch, may-book-entry}
use Rattle.proc_a.proofs.booking.may_book.Goals as goal

pub why_entry_waits-requires-clause-held : goal.why_entry_waits-requires-clause-held
why_entry_waits-requires-clause-held g c =
    let at = ap (λ (d : Day). entry_at d c.args.n c.args.k) (sym c.setting.ensures) ∙ c.in-Some.ensures in
    held-in_batch _ _ _ c.args.n c.args.k c.in-Some.entry.now (g.D.Desk.legal c.args.desk.now) c.requires.batch at (sym c.is_pending.ensures ∙ c.if-not-is_pending.false) c.requires.held

none_from : (o : Option Why) (r : Bool) → is_some o ≡ not r → r ≡ is_none o
none_from None true h = refl
none_from None false h = cc
none_from (Some w) true h = cc
none_from (Some w) false h = refl

pub returns-in-Some : goal.returns-in-Some
returns-in-Some g c =
    let at = ap (λ (d : Day). entry_at d c.args.n c.args.k) (sym c.setting.ensures) ∙ c.in-Some.ensures in
    none_from _ _ c.is_none.ensures ∙ ap is_none c.why_entry_waits.ensures
    ∙ sym (may-book-entry _ _ c.args.n c.args.k c.in-Some.entry.now c.requires.batch (sym c.is_pending.ensures ∙ c.if-not-is_pending.false) at)
