use Rattle.day_page.specs.CountTexts.{refusal_text}
use Rattle.day_page.proofs.counting.put_refusal.Goals as goal

pub returns : goal.returns
unfolding refusal_text
returns g c = rw (c.text.ensures, c.as_bytes.ensures.value, c.format.ensures.text) at c.put_if.ensures
