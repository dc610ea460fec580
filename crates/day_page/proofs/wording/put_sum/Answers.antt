use Rattle.day_page.specs.LineTexts.{sum_words}
use Rattle.day_page.proofs.wording.put_sum.Goals as goal

pub returns : goal.returns
unfolding sum_words
returns g c = rw (c.as_bytes.ensures.value, c.format.ensures.text, c.as_bytes-2.ensures.value, c.deref.ensures.0, c.amount-sum.ensures, c.moved_cents.ensures) at c.put_if.ensures
