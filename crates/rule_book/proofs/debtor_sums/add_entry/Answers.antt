use Rattle.std.proofs.Common.{◌∙◌, ◌+◌, ap, sym, if◌then◌else◌}
use Rattle.std.specs.Prelude.{nat_eq}
use Rattle.rule_book.specs.Owed.{debited, owed}
use Rattle.rule_book.proofs.Summing.{nothing_more}
use Rattle.rule_book.proofs.debtor_sums.add_entry.Goals as goal

pub returns-in-None-clause-sums : goal.returns-in-None-clause-sums
returns-in-None-clause-sums c = λ m b.
    nothing_more (nat_eq c.args.n m) (owed c.args.sums.now m b)
    ∙ ap (λ o. owed c.args.sums.now m b + (if nat_eq c.args.n m then debited c.args.technical o b else 0)) (sym c.in-None.is)
