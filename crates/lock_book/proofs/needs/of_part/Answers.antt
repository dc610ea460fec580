use Rattle.std.proofs.Common.{◌∙◌, ap}
use Rattle.machine.specs.Records.Messages.{part}
use Rattle.lock_book.specs.Needs.{needs_of}
use Rattle.lock_book.proofs.Needing.{no_accounts, part_accounts}
use Rattle.lock_book.proofs.needs.of_part.Goals as goal

pub returns-in-Some : goal.returns-in-Some
returns-in-Some c =
    let day = c.args.setting.now.day in
    c.of_move.ensures ∙ ap needs_of (part_accounts day (part day c.args.n c.args.k) c.in-Some.found c.in-Some.ensures)

pub returns-in-None : goal.returns-in-None
returns-in-None c =
    let day = c.args.setting.now.day in
    c.none.ensures ∙ ap needs_of (no_accounts day (part day c.args.n c.args.k) c.in-None.ensures)
