use Rattle.std.proofs.Common.{◌∙◌, ap, sym}
use Rattle.std.specs.Prelude.{flat_map, option_to_list}
use Rattle.batch_records.specs.Flat.{body_with_entries, with_entries}
use Rattle.machine.specs.Records.Messages.{entries, fund_of}
use Rattle.machine.specs.Making.Accounts.{accounts_of}
use Rattle.lock_book.specs.Needs.{either, needs_of}
use Rattle.lock_book.proofs.Needing.{accounts_of_batch, needs_joined}
use Rattle.lock_book.proofs.needs.of_message.Goals as goal

pub returns-in-Batch : goal.returns-in-Batch
returns-in-Batch c =
    let day = c.args.setting.now.day in
    let n = c.args.n in
    c.either.ensures
    ∙ (λ j. either (c.of_entries.ensures j) ((c.of_option.ensures ∙ ap (λ o. needs_of (option_to_list o)) c.fund_of.ensures) j))
    ∙ needs_joined (flat_map (accounts_of day) (entries day n)) (option_to_list (fund_of day n))
    ∙ ap needs_of (sym (accounts_of_batch day n (with_entries c.in-Some.message.now (entries day n)) _ _ _ _ _ _ _ c.in-Some.ensures (ap (λ b. body_with_entries b (entries day n)) c.in-Batch.is)))
