use Rattle.day_page.specs.LineTexts.{about}
use Rattle.day_page.proofs.wording.put_about.Goals as goal

pub returns : goal.returns
unfolding about
returns g c = rw (c.word_of.ensures, c.message_id.ensures, c.sender_name.ensures, c.has_message.ensures) at c.put_if.ensures
