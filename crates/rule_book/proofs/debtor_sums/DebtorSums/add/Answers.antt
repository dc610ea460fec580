use Rattle.std.proofs.Common.{◌≡◌, ◌∙◌, ◌+◌, ap, arith, if◌then◌else◌}
use Rattle.std.specs.Prelude.{nat_eq}
use Rattle.rule_book.specs.Owed.{Debts, owed}
use Rattle.rule_book.proofs.DebtLemmas.{entered_at_end, raised_at, sum_read}
use Rattle.rule_book.proofs.debtor_sums.DebtorSums.add.Goals as goal

pub overflow_add-index_mut : goal.overflow_add-index_mut
overflow_add-index_mut c =
    let n = c.args.n in
    let a = c.args.a in
    let read : c.index_mut.result.now ≡ owed c.args.self.now n a =
    sum_read n a c.in-Some.i c.index_mut.result.now c.debtor_key-key.result c.self.inside.keys.keys c.self.inside.sums.items c.debtor_key-key.ensures c.in-Some.ensures c.self.invariant.one_each c.index_mut.ensures.value
    ∙ ap (λ (d : Debts). owed d n a) c.self.view_is in
    omega (arith, read, c.requires.small, c.requires.one)

pub returns-in-Some-clause-sums : goal.returns-in-Some-clause-sums
returns-in-Some-clause-sums c = λ m b.
    raised_at c.args.n c.args.a c.in-Some.i c.index_mut.result.now c.args.amount c.debtor_key-key.result c.self.inside.keys.keys c.self.inside.sums.items c.debtor_key-key.ensures c.in-Some.ensures c.self.invariant.one_each
    c.index_mut.ensures.value m b
    ∙ ap (λ (d : Debts). owed d m b + (if nat_eq c.args.n m then (if nat_eq c.args.a b then c.args.amount else 0) else 0)) c.self.view_is

pub returns-in-None-clause-sums : goal.returns-in-None-clause-sums
returns-in-None-clause-sums c = λ m b.
    entered_at_end c.args.n c.args.a c.args.amount c.debtor_key-key.result c.self.inside.keys.keys c.enter.new.self.keys c.self.inside.sums.items c.push_reserved.new.self.items c.debtor_key-key.ensures c.in-None.ensures
    c.self.invariant.one_each c.enter.ensures.keys c.push_reserved.ensures.items m b
    ∙ ap (λ (d : Debts). owed d m b + (if nat_eq c.args.n m then (if nat_eq c.args.a b then c.args.amount else 0) else 0)) c.self.view_is
