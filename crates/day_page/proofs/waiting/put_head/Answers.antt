use Rattle.day_page.specs.WaitTexts.{queue_head}
use Rattle.day_page.proofs.waiting.put_head.Goals as goal

pub returns : goal.returns
unfolding queue_head
returns g c = rw (c.priority_word.ensures, c.priority_word-2.ensures, c.priority_word-3.ensures, c.priority_word-4.ensures, c.frame.ensures, c.as_bytes.ensures.value, c.deref.ensures.0, c.amount-top.ensures) at c.put_pieces.ensures
