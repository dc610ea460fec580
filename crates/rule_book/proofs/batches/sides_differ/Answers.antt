use Rattle.std.proofs.Common.{◌≡◌, ◌∙◌, not}
use Rattle.std.specs.Prelude.{filter, nat_eq, sum_by}
use Rattle.machine.specs.Records.Messages.{entries, is_paid_from_technical, pays_technical}
use Rattle.machine.specs.Stages.Intake.{amount_of}
use Rattle.rule_book.specs.Moves.{comes_from, goes_to, moved_amount}
use Rattle.rule_book.proofs.MoveFacts.{paid_in_is, paid_out_is}
use Rattle.rule_book.proofs.batches.sides_differ.Goals as goal

pub returns : goal.returns
returns c =
    let day = c.args.setting.now.day in
    let paid : c.paid_in.result ≡ sum_by amount_of (filter (pays_technical day c.args.n) (entries day c.args.n)) =
    c.paid_in.ensures ∙ (λ i. sum_by moved_amount (filter (goes_to (c.technical_of-technical.ensures i)) (c.entry_moves-moves.ensures i))) ∙ paid_in_is day c.args.n in
    let taken : c.paid_out.result ≡ sum_by amount_of (filter (is_paid_from_technical day c.args.n) (entries day c.args.n)) =
    c.paid_out.ensures ∙ (λ i. sum_by moved_amount (filter (comes_from (c.technical_of-technical.ensures i)) (c.entry_moves-moves.ensures i))) ∙ paid_out_is day c.args.n in
    λ i. not (nat_eq (paid i) (taken i))
