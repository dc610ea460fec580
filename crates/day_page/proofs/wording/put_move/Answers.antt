use Rattle.day_page.specs.LineTexts.{move_words}
use Rattle.day_page.proofs.wording.put_move.Goals as goal

pub returns : goal.returns
unfolding move_words
returns g c = rw (c.as_bytes.ensures.value, c.deref.ensures.0, c.amount-cents.ensures, c.from.ensures, c.get.ensures.value, c.account_name.ensures, c.account_name-2.ensures) at c.put_pieces.ensures
