use Rattle.day_page.specs.CountTexts.{outcome_head}
use Rattle.day_page.proofs.counting.put_outcome_head.Goals as goal

pub returns : goal.returns
unfolding outcome_head
returns g c = rw c.class_word.ensures at c.put_pieces.ensures
