use Rattle.outside_io.proofs.PutLemmas.{puts_first, puts_then}
use Rattle.day_page.specs.LineTexts.{item_text}
use Rattle.day_page.proofs.wording.put_item.Goals as goal

pub returns-in_err-put_place : goal.returns-in_err-put_place
unfolding item_text
returns-in_err-put_place g c = puts_first _ _ _ _ _ _ c.from_residual.ensures.0 c.in_err-put_place.ensures

pub returns : goal.returns
unfolding item_text
returns g c = puts_then _ _ _ _ _ _ _ c.in_ok-put_place.ensures c.put_words_and_end.ensures
