use Rattle.day_page.specs.WaitTexts.{waiting_row}
use Rattle.day_page.proofs.waiting.put_row.Goals as goal

pub returns : goal.returns
unfolding waiting_row
returns g c = rw (c.clock_bytes-clock.ensures, c.as_bytes.ensures.value, c.format.ensures.text, c.as_bytes-2.ensures.value, c.deref.ensures.0, c.amount-urgent_sum.ensures, c.as_bytes-3.ensures.value, c.format-2.ensures.text, c.as_bytes-4.ensures.value, c.deref-2.ensures.0, c.amount-high_sum.ensures, c.as_bytes-5.ensures.value, c.format-3.ensures.text, c.as_bytes-6.ensures.value, c.deref-3.ensures.0, c.amount-normal_sum.ensures) at c.put_pieces.ensures
