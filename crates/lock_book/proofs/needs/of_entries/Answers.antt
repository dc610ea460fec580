use Rattle.std.proofs.Common.{◌∙◌, ap}
use Rattle.std.specs.Prelude.{flat_map}
use Rattle.machine.specs.Records.Messages.{entries}
use Rattle.lock_book.specs.Needs.{accounts_in, needs_of}
use Rattle.lock_book.proofs.Needing.{all_accounts}
use Rattle.lock_book.proofs.needs.of_entries.Goals as goal

pub returns : goal.returns
returns c =
    let day = c.args.setting.now.day in
    c.of_moves.ensures ∙ ap needs_of (ap (flat_map accounts_in) c.entry_moves.ensures ∙ all_accounts day (entries day c.args.n))
