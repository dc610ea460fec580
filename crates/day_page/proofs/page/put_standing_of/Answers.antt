use Rattle.outside_io.proofs.PutLemmas.{puts_first, puts_then}
use Rattle.day_page.specs.Pages.{standing_of}
use Rattle.day_page.proofs.page.put_standing_of.Goals as goal

pub returns-in_err-put_clock : goal.returns-in_err-put_clock
unfolding standing_of
returns-in_err-put_clock g c = puts_first _ _ _ _ _ _ c.from_residual.ensures.0 c.in_err-put_clock.ensures

pub returns : goal.returns
unfolding standing_of
returns g c = puts_then _ _ _ _ _ _ _ c.in_ok-put_clock.ensures c.put_state.ensures
