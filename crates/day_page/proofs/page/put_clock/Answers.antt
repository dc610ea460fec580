use Rattle.day_page.specs.Pages.{clock_words}
use Rattle.day_page.proofs.page.put_clock.Goals as goal

pub returns : goal.returns
unfolding clock_words
returns g c = rw (c.as_bytes.ensures.value, c.format.ensures.text, c.clock_bytes-clock.ensures) at c.put_pieces.ensures
