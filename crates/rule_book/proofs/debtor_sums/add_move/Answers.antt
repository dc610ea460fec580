use Rattle.std.proofs.Common.{◌∙◌, Some, sym}
use Rattle.std.specs.Prelude.{nat_eq}
use Rattle.machine.specs.Words.{same_account}
use Rattle.rule_book.specs.Owed.{owed}
use Rattle.rule_book.proofs.Summing.{if_fails, if_passes}
use Rattle.rule_book.proofs.debtor_sums.add_move.Goals as goal

pub returns-then-is_technical-clause-sums : goal.returns-then-is_technical-clause-sums
returns-then-is_technical-clause-sums c = λ k b.
    let n = c.args.n in
    let t = c.args.technical in
    let m = c.args.found in
    if_passes (nat_eq n k) (same_account (Some m.credit) t) (nat_eq m.debit b) (owed c.args.sums.now k b) (owed c.add.new.self k b) c.get.result m.amount (c.add.ensures.sums k b) c.get.ensures.value (sym c.is_technical.ensures ∙ c.if-is_technical.true)

pub returns-else-is_technical-clause-sums : goal.returns-else-is_technical-clause-sums
returns-else-is_technical-clause-sums c = λ m b.
    if_fails (nat_eq c.args.n m) (same_account (Some c.args.found.credit) c.args.technical) (nat_eq c.args.found.debit b) (owed c.args.sums.now m b) c.args.found.amount
    (sym c.is_technical.ensures ∙ c.if-is_technical.false)
