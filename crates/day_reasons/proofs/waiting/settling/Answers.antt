use Rattle.std.proofs.Common.{◌∙◌, ap, sym}
use Rattle.std.specs.Prelude.{not}
use Rattle.commit_journal.specs.declared.line.Want.TheVariants as wants
use Rattle.machine.specs.Words.{when}
use Rattle.machine.specs.Records.Messages.{sort_of}
use Rattle.day_reasons.proofs.Settling.{of_entries, of_none, of_payment, of_whole}
use Rattle.day_reasons.proofs.waiting.settling.Goals as goal

pub returns-then-is_pay : goal.returns-then-is_pay
returns-then-is_pay c =
    c.when.ensures ∙ ap (λ z. when z (wants.Book c.args.n c.args.k)) c.is_zero-is_whole.ensures
    ∙ of_payment (sort_of c.args.setting.now.day c.args.n) c.args.n c.args.k (sym c.is_pay.ensures ∙ c.if-is_pay.true)

pub returns-then-is_b : goal.returns-then-is_b
returns-then-is_b c =
    c.when-then-is_b.ensures ∙ ap (λ z. when z (wants.All c.args.n)) c.is_zero-is_whole.ensures
    ∙ of_whole (sort_of c.args.setting.now.day c.args.n) c.args.n c.args.k (sym c.is_b.ensures ∙ c.if-is_b.true)

pub returns-then-has_entries_booked : goal.returns-then-has_entries_booked
returns-then-has_entries_booked c =
    c.when-then-has_entries_booked.ensures ∙ ap (λ z. when (not z) (wants.Book c.args.n c.args.k)) c.is_zero-is_whole.ensures
    ∙ of_entries (sort_of c.args.setting.now.day c.args.n) c.args.n c.args.k (sym c.has_entries_booked.ensures ∙ c.if-has_entries_booked.true)

pub returns : goal.returns
returns c =
    of_none (sort_of c.args.setting.now.day c.args.n) c.args.n c.args.k (sym c.is_pay.ensures ∙ c.if-is_pay.false) (sym c.is_b.ensures ∙ c.if-is_b.false) (sym c.has_entries_booked.ensures ∙ c.if-has_entries_booked.false)
