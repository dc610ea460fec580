use Rattle.day_page.specs.LineTexts.{words_before}
use Rattle.day_page.proofs.wording.put_clock.Goals as goal

pub returns : goal.returns
unfolding words_before
returns g c = rw c.clock_bytes-clock.ensures at c.put_pieces.ensures
