use Rattle.std.proofs.Common.{◌≡◌, ◌∙◌, sym, subst, ap, Some, decimal, arith}
use Rattle.std.specs.Str.{IsUtf8}
use Rattle.std.proofs.lemmas.Fmt.{parse-decimal, IsAscii-decimal}
use Rattle.std.proofs.lemmas.Str.{IsUtf8-from_ascii}
use Rattle.commit_journal.proofs.fields.parsed.Goals as goal

pub returns-in_default : goal.returns-in_default
returns-in_default c = λ n small e. absurd (c.in_default.ensures.cases.0 (subst IsUtf8 (sym e) (IsUtf8-from_ascii (decimal n) (IsAscii-decimal n (omega arith)))))

pub returns-in-Ok-parse : goal.returns-in-Ok-parse
returns-in-Ok-parse c = λ n small e.
    let read = parse-decimal 32 n _ _ small (omega arith) (c.in-Ok.ensures.cases.0 ∙ e) c.parse.ensures.value.0 in
    let same : c.in-Ok-parse.n ≡ n = cc read in
    ap Some same

pub returns-in-Err : goal.returns-in-Err
returns-in-Err c = λ n small e. absurd (cc (parse-decimal 32 n _ _ small (omega arith) (c.in-Ok.ensures.cases.0 ∙ e) c.parse.ensures.value.0))
