use Rattle.std.proofs.Common.{◌≡◌, ◌∙◌, ap}
use Rattle.std.specs.List.{list_all}
use Rattle.batch_records.specs.DayRecord.{Day}
use Rattle.batch_records.specs.declared.day.Entry.{Entry}
use Rattle.machine.specs.Words.{is_dca}
use Rattle.machine.specs.Records.Setup.{account_named}
use Rattle.machine.specs.Records.Messages.{entries, move_of}
use Rattle.rule_book.proofs.MoveFacts.{all_moves, apart_is}
use Rattle.proc_e.specs.Reasons.{is_bilateral, is_bilateral_move}
use Rattle.proc_e.proofs.acceptance.all_fit.Goals as goal

move_fits : (day : Day) (e : Entry) → is_bilateral_move day (move_of day e) ≡ is_bilateral day e
move_fits day e = apart_is day (λ r. is_dca r.kind) (λ r. is_dca r.kind) (account_named day e.debit) (account_named day e.credit)

pub returns : goal.returns
returns c =
    let day = c.args.setting.now.day in
    c.are_bilateral.ensures ∙ ap (list_all (is_bilateral_move day)) c.entry_moves.ensures
    ∙ all_moves (move_of day) (is_bilateral day) (is_bilateral_move day) (move_fits day) (entries day c.args.n)
