use Rattle.day_page.specs.CountTexts.{outcome_cell}
use Rattle.day_page.proofs.counting.put_outcome_cell.Goals as goal

pub returns : goal.returns
unfolding outcome_cell
returns g c = rw (c.as_bytes.ensures.value, c.format.ensures.text, c.outcome_count.ensures, c.as_bytes-2.ensures.value, c.deref.ensures.0, c.amount-sum.ensures, c.outcome_cents.ensures) at c.put_pieces.ensures
