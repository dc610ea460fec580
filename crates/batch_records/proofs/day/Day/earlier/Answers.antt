use Rattle.std.proofs.Common.{◌∙◌, ◌+◌, ap, sym}
use Rattle.std.specs.Prelude.{option_map}
use Rattle.batch_records.proofs.RepeatFacts.{earlier_recorded}
use Rattle.batch_records.proofs.day.Day.earlier.Goals as goal

pub returns-in_err-first : goal.returns-in_err-first
returns-in_err-first c =
    let at = rw c.message_records-messages.ensures at c.index-messages-at.is in
    let found = rw c.message_records-messages.ensures at c.first_like.ensures in
    c.from_residual.ensures ∙ ap (option_map (λ i. i + 1)) (sym c.in_err-first.was ∙ found) ∙ earlier_recorded c.args.self.now c.args.n c.index-messages-at.result c.requires.from_one c.requires.within at

pub returns : goal.returns
returns c =
    let at = rw c.message_records-messages.ensures at c.index-messages-at.is in
    let found = rw c.message_records-messages.ensures at c.first_like.ensures in
    ap (option_map (λ i. i + 1)) (sym c.in_ok-first.was ∙ found) ∙ earlier_recorded c.args.self.now c.args.n c.index-messages-at.result c.requires.from_one c.requires.within at
