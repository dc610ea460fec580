use Rattle.std.proofs.Common.{arith, ◌∙◌}
use Rattle.rule_book.proofs.KeptRepeats.{kept_at, kept_past}
use Rattle.rule_book.proofs.parts.earlier.Goals as goal

pub returns-in-Some : goal.returns-in-Some
returns-in-Some c =
    let setting = c.args.setting.now in
    let found = c.in-Some.ensures.lookup in
    kept_at setting.day c.as_slice.result.now (c.as_slice.ensures ∙ setting.found_out.0.1) c.args.n c.in-Some.first.now (omega (arith, c.if-n-eq0.false)) found.3.0 found.1

pub returns-in-None : goal.returns-in-None
returns-in-None c =
    let setting = c.args.setting.now in
    kept_past setting.day c.as_slice.result.now (c.as_slice.ensures ∙ setting.found_out.0.1) c.args.n (omega (arith, c.if-n-eq0.false)) c.in-None.ensures.lookup.3
