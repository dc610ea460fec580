use Rattle.day_page.specs.BarTexts.{bar_head}
use Rattle.day_page.proofs.drawing.put_head.Goals as goal

pub returns : goal.returns
unfolding bar_head
returns g c = rw (c.sender_name.ensures, c.word_of.ensures, c.message_id.ensures, c.as_bytes.ensures.value, c.deref.ensures.0, c.amount-sum.ensures, c.from.ensures, c.order_cents.ensures.value, c.message_id-2.ensures, c.message_id-3.ensures) at c.put_pieces.ensures
