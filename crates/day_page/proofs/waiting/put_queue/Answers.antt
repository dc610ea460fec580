use Rattle.day_page.specs.WaitTexts.{queue_text}
use Rattle.day_page.proofs.waiting.put_queue.Goals as goal

pub returns : goal.returns
unfolding queue_text
returns g c = rw c.peak_of.ensures at c.put_picture.ensures
