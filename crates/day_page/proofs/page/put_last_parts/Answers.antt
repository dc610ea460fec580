use Rattle.outside_io.proofs.PutLemmas.{puts_first, puts_then}
use Rattle.day_page.specs.Pages.{last_parts}
use Rattle.day_page.proofs.page.put_last_parts.Goals as goal

pub returns-in_err-put_bars_part : goal.returns-in_err-put_bars_part
unfolding last_parts
returns-in_err-put_bars_part g c = puts_first _ _ _ _ _ _ c.from_residual.ensures.0 c.in_err-put_bars_part.ensures

pub returns : goal.returns
unfolding last_parts
returns g c = puts_then _ _ _ _ _ _ _ c.in_ok-put_bars_part.ensures c.put_lines_and_foot.ensures
