use Rattle.day_page.specs.CountTexts.{refusal_part}
use Rattle.day_page.proofs.counting.put_refusal_part.Goals as goal

pub returns : goal.returns
unfolding refusal_part
returns g c = rw c.code_count.ensures at c.put_refusal.ensures
