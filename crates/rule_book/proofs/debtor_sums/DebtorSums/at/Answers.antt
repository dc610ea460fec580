use Rattle.std.proofs.Common.{◌∙◌, None, ap, subst}
use Rattle.first_of_key.specs.First.{IsFirstOf}
use Rattle.rule_book.specs.Owed.{Debts, owed}
use Rattle.rule_book.proofs.DebtLemmas.{sum_none, sum_read}
use Rattle.rule_book.proofs.debtor_sums.DebtorSums.at.Goals as goal

pub returns-in-Some : goal.returns-in-Some
returns-in-Some c =
    sum_read c.args.n c.args.a c.in-Some.i c.index.result.now c.debtor_key.result c.self.inside.keys.keys c.self.inside.sums.items c.debtor_key.ensures c.in-Some.ensures c.self.invariant.one_each c.index.ensures
    ∙ ap (λ (d : Debts). owed d c.args.n c.args.a) c.self.view_is

pub returns-in-None : goal.returns-in-None
returns-in-None c =
    sum_none c.args.n c.args.a c.self.inside.keys.keys c.self.inside.sums.items (subst (λ k. IsFirstOf c.self.inside.keys.keys k None) c.debtor_key.ensures c.in-None.ensures)
    ∙ ap (λ (d : Debts). owed d c.args.n c.args.a) c.self.view_is
