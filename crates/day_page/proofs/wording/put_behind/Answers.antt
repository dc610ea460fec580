use Rattle.day_page.specs.LineTexts.{words_behind}
use Rattle.day_page.proofs.wording.put_behind.Goals as goal

pub returns-in-In : goal.returns-in-In
unfolding words_behind
returns-in-In g c = rw c.in-In.is c.put_code.ensures

pub returns-in-Expire : goal.returns-in-Expire
unfolding words_behind
returns-in-Expire g c = rw c.in-Expire.is c.put_code-in-Expire.ensures
