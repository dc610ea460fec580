use Rattle.outside_io.proofs.PutLemmas.{puts_first, puts_then}
use Rattle.liquidity_view.specs.Viewed.{view_text}
use Rattle.liquidity_view.proofs.report.put_view.Goals as goal

pub returns-in_err-put_lines : goal.returns-in_err-put_lines
unfolding view_text
returns-in_err-put_lines g c = puts_first _ _ _ _ _ _ c.from_residual.ensures.0 c.in_err-put_lines.ensures

pub returns : goal.returns
unfolding view_text
returns g c = puts_then _ _ _ _ _ _ _ c.in_ok-put_lines.ensures (rw c.len.ensures at c.put_ok.ensures)
