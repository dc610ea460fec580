use Rattle.outside_io.proofs.PutLemmas.{puts_first, puts_then}
use Rattle.day_page.proofs.wording.put_words_and_end.Goals as goal

pub returns-in_err-put_words : goal.returns-in_err-put_words
returns-in_err-put_words g c = puts_first _ _ _ _ _ _ c.from_residual.ensures.0 c.in_err-put_words.ensures

pub returns : goal.returns
returns g c = puts_then _ _ _ _ _ _ _ c.in_ok-put_words.ensures c.put_all.ensures
