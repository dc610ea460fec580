use Rattle.std.proofs.Common.{◌≡◌, ◌∙◌, sym, ap, Some, decimal, arith}
use Rattle.std.proofs.lemmas.Fmt.{parse-decimal}
use Rattle.std.proofs.lemmas.Slice.Eq.{bytes_eq-Decides}
use Rattle.kept_day.proofs.command.bytes_of_word.Goals as goal

pub returns-in-Err-clause-each : goal.returns-in-Err-clause-each
returns-in-Err-clause-each c = λ n small e. absurd (cc (parse-decimal 64 n _ _ (omega (arith, small)) (omega arith) e c.parse.ensures.value.0))

pub returns-then-number-gt9223372036854775807-clause-each : goal.returns-then-number-gt9223372036854775807-clause-each
returns-then-number-gt9223372036854775807-clause-each c = λ n small e.
    let read = parse-decimal 64 n _ _ (omega (arith, small)) (omega arith) e c.parse.ensures.value.0 in
    let same : c.in-Ok.number ≡ n = cc read in
    absurd (omega (arith, small, same, c.if-number-gt9223372036854775807.true))

pub returns-then-is_text_of-clause-each : goal.returns-then-is_text_of-clause-each
returns-then-is_text_of-clause-each c = λ n small e.
    let read = parse-decimal 64 n _ _ (omega (arith, small)) (omega arith) e c.parse.ensures.value.0 in
    let same : c.in-Ok.number ≡ n = cc read in
    ap Some same

pub returns-else-is_text_of-clause-each : goal.returns-else-is_text_of-clause-each
returns-else-is_text_of-clause-each c = λ n small e.
    let read = parse-decimal 64 n _ _ (omega (arith, small)) (omega arith) e c.parse.ensures.value.0 in
    let same : c.in-Ok.number ≡ n = cc read in
    let text = (bytes_eq-Decides (decimal c.in-Ok.number) c.args.word.now).1 (ap decimal same ∙ sym e) in
    absurd (cc (sym text ∙ sym c.is_text_of.ensures ∙ c.if-is_text_of.false))
