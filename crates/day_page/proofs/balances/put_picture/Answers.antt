use Rattle.day_page.specs.BalanceTexts.{course_picture}
use Rattle.day_page.proofs.balances.put_picture.Goals as goal

pub returns : goal.returns
unfolding course_picture
returns g c = rw (c.name_of_row.ensures, c.name_of_row-2.ensures, c.name_of_row-3.ensures, c.frame.ensures, c.as_bytes.ensures.value, c.deref.ensures.0, c.amount-highest.ensures, c.as_bytes-2.ensures.value, c.format.ensures.text, c.y_of.ensures) at c.put_pieces.ensures
