use Rattle.outside_io.proofs.PutLemmas.{puts_first, puts_then}
use Rattle.day_page.proofs.counting.put_tables.Goals as goal

pub returns-in_err-put_count_table : goal.returns-in_err-put_count_table
returns-in_err-put_count_table g c = puts_first _ _ _ _ _ _ c.from_residual.ensures.0 c.in_err-put_count_table.ensures

pub returns : goal.returns
returns g c = puts_then _ _ _ _ _ _ _ c.in_ok-put_count_table.ensures c.put_last_table.ensures
