use Rattle.day_page.specs.LineTexts.{booked_entry}
use Rattle.day_page.proofs.wording.put_entry.Goals as goal

pub returns : goal.returns
unfolding booked_entry
returns g c = rw (c.as_bytes.ensures.value, c.format.ensures.text) at c.put_if.ensures
