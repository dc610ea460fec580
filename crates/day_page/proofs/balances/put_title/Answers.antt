use Rattle.day_page.specs.BalanceTexts.{course_title}
use Rattle.day_page.proofs.balances.put_title.Goals as goal

pub returns : goal.returns
unfolding course_title
returns g c = rw (c.name_of_row.ensures, c.as_bytes.ensures.value, c.deref.ensures.0, c.amount-opening.ensures, c.as_bytes-2.ensures.value, c.deref-2.ensures.0, c.amount-lowest.ensures, c.as_bytes-3.ensures.value, c.deref-3.ensures.0, c.amount-highest.ensures, c.as_bytes-4.ensures.value, c.deref-4.ensures.0, c.amount-closing.ensures) at c.put_pieces.ensures
