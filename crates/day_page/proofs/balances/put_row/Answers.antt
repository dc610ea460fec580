use Rattle.day_page.specs.BalanceTexts.{point_row}
use Rattle.day_page.proofs.balances.put_row.Goals as goal

pub returns : goal.returns
unfolding point_row
returns g c = rw (c.clock_bytes-clock.ensures, c.as_bytes.ensures.value, c.deref.ensures.0, c.amount-cents.ensures, c.is_at.ensures) at c.put_if.ensures
