use Rattle.outside_io.proofs.PutLemmas.{puts_first, puts_then}
use Rattle.day_page.specs.LineTexts.{line_words}
use Rattle.day_page.proofs.wording.put_words.Goals as goal

pub returns-in_err-put_moves : goal.returns-in_err-put_moves
unfolding line_words
returns-in_err-put_moves g c = puts_first _ _ _ _ _ _ c.from_residual.ensures.0 c.in_err-put_moves.ensures

pub returns : goal.returns
unfolding line_words
returns g c = puts_then _ _ _ _ _ _ _ c.in_ok-put_moves.ensures c.put_head.ensures
