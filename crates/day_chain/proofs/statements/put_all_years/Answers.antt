use Rattle.outside_io.proofs.PutLemmas.{puts_first, puts_then}
use Rattle.day_chain.proofs.statements.put_all_years.Goals as goal

pub returns-in_err-put_years : goal.returns-in_err-put_years
returns-in_err-put_years g c = puts_first _ _ _ _ _ _ c.from_residual.ensures.0 (rw c.as_slice-accounts.ensures at c.in_err-put_years.ensures)

pub returns : goal.returns
returns g c = puts_then _ _ _ _ _ _ _ (rw c.as_slice-accounts.ensures at c.in_ok-put_years.ensures) (rw c.as_slice-accounts.ensures at c.put_year.ensures)
