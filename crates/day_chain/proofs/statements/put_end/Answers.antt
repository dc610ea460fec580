use Rattle.std.proofs.Common.{List, subst, sym}
use Rattle.day_chain.specs.declared.ledger.YearSums.{YearSums}
use Rattle.day_chain.specs.Ledgers.{StandsAt}
use Rattle.outside_io.proofs.PutLemmas.{puts_first, puts_then}
use Rattle.day_chain.proofs.statements.put_end.Goals as goal

pub put_statements-requires : goal.put_statements-requires
put_statements-requires g c =
    let s = c.requires.stands in
    record { stands = (s.0, subst (λ (years : List YearSums). StandsAt c.args.ledger.now.last s.0 years) (sym c.deref.ensures.value) s.1.at) }

pub returns-in_err-put_statements : goal.returns-in_err-put_statements
returns-in_err-put_statements g c = λ told stands.
    puts_first _ _ _ _ _ _ c.from_residual.ensures.0 (c.in_err-put_statements.ensures told (subst (λ (years : List YearSums). StandsAt c.args.ledger.now.last told years) (sym c.deref.ensures.value) stands.at))

pub returns : goal.returns
returns g c = λ told stands.
    puts_then _ _ _ _ _ _ _ (c.in_ok-put_statements.ensures told (subst (λ (years : List YearSums). StandsAt c.args.ledger.now.last told years) (sym c.deref.ensures.value) stands.at)) (rw stands.count at c.put_ok.ensures)
