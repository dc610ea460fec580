use Rattle.day_page.specs.LineTexts.{words_before}
use Rattle.day_page.proofs.wording.put_before.Goals as goal

pub returns-in-Ask : goal.returns-in-Ask
unfolding words_before
returns-in-Ask g c = rw c.in-Ask.is c.put_all.ensures

pub returns-in-Cover : goal.returns-in-Cover
unfolding words_before
returns-in-Cover g c = rw c.in-Cover.is c.put_all-in-Cover.ensures

pub returns-in-Refuse : goal.returns-in-Refuse
unfolding words_before
returns-in-Refuse g c = rw c.in-Refuse.is c.put_all-in-Refuse.ensures
