use Rattle.day_page.specs.CountTexts.{count_cells}
use Rattle.day_page.proofs.counting.put_count_cells.Goals as goal

pub returns : goal.returns
unfolding count_cells
returns g c = rw (c.class_word.ensures, c.as_bytes.ensures.value, c.format.ensures.text, c.sent_count.ensures, c.as_bytes-2.ensures.value, c.format-2.ensures.text, c.left_count.ensures, c.as_bytes-3.ensures.value, c.format-3.ensures.text, c.code_count.ensures) at c.put_pieces.ensures
