use Rattle.std.proofs.Common.{sym, arith}
use Rattle.rule_book.proofs.KeptFacts.{kept_none}
use Rattle.rule_book.proofs.parts.kept.Goals as goal

pub returns-then-a-eq0-clause-value : goal.returns-then-a-eq0-clause-value
returns-then-a-eq0-clause-value c = sym (kept_none c.args.setting.now.day c.args.a c.args.high c.args.setting.now.sound (λ in_range. let low = in_range.0 in omega (arith, low, c.if-a-eq0.true)))

pub returns-then-account_count-a-clause-value : goal.returns-then-account_count-a-clause-value
returns-then-account_count-a-clause-value c =
    sym (kept_none c.args.setting.now.day c.args.a c.args.high c.args.setting.now.sound (λ in_range. let high = in_range.1 in omega (arith, high, c.if-account_count-a.true, c.account_count.ensures)))
