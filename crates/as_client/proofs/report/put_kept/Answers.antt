use Rattle.outside_io.proofs.PutLemmas.{puts_first, puts_then}
use Rattle.as_client.proofs.report.put_kept.Goals as goal

pub returns-in_err-put_holdings : goal.returns-in_err-put_holdings
returns-in_err-put_holdings g c = puts_first _ _ _ _ _ _ c.from_residual.ensures.0 c.in_err-put_holdings.ensures

pub returns : goal.returns
returns g c = puts_then _ _ _ _ _ _ _ c.in_ok-put_holdings.ensures c.put_rest.ensures
