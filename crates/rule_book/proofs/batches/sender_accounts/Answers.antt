use Rattle.std.proofs.Common.{arith, ◌∙◌}
use Rattle.rule_book.specs.Settings.{accounts_of}
use Rattle.rule_book.proofs.KeptRepeats.{made_at}
use Rattle.rule_book.proofs.batches.sender_accounts.Goals as goal

pub returns-in-Some : goal.returns-in-Some
returns-in-Some c =
    let setting = c.args.setting.now in
    let found = c.in-Some.ensures.lookup in
    made_at setting.day (accounts_of setting.day) c.as_slice.result.now (c.as_slice.ensures ∙ setting.found_out.1.1) c.args.n c.in-Some.found.now (omega (arith, c.if-n-eq0.false)) found.3.0 found.1
