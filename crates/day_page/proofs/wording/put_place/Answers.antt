use Rattle.day_page.specs.LineTexts.{item_head}
use Rattle.day_page.proofs.wording.put_place.Goals as goal

pub returns : goal.returns
unfolding item_head
returns g c = rw (c.as_bytes.ensures.value, c.format.ensures.text) at c.put_pieces.ensures
