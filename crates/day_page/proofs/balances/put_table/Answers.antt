use Rattle.day_page.specs.BalanceTexts.{course_table}
use Rattle.day_page.proofs.balances.put_table.Goals as goal

pub returns : goal.returns
unfolding course_table
returns g c = rw c.name_of_row.ensures at c.put_pieces.ensures
