use Rattle.day_page.specs.BarTexts.{bar_part}
use Rattle.day_page.proofs.drawing.put_part.Goals as goal

pub returns : goal.returns
unfolding bar_part
returns g c = rw (c.phase_word.ensures, c.as_bytes.ensures.value, c.format.ensures.text, c.as_bytes-2.ensures.value, c.format-2.ensures.text, c.saturating_sub.ensures, c.is_of.ensures) at c.put_if.ensures
