use Rattle.day_page.specs.BalanceTexts.{point_step, step_text}
use Rattle.day_page.proofs.balances.put_step.Goals as goal

pub returns : goal.returns
unfolding point_step step_text
returns g c = rw (c.as_bytes.ensures.value, c.format.ensures.text, c.x_of.ensures, c.as_bytes-2.ensures.value, c.format-2.ensures.text, c.y_of.ensures, c.is_at.ensures) at c.put_if.ensures
