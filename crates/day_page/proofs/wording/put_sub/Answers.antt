use Rattle.day_page.specs.LineTexts.{words_before}
use Rattle.day_page.proofs.wording.put_sub.Goals as goal

pub returns : goal.returns
unfolding words_before
returns g c = rw c.account_name.ensures at c.put_pieces.ensures
