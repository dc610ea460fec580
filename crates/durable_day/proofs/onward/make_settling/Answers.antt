use Rattle.durable_day.proofs.NextFacts.{made_as, next_ready, next_time, told_line}
use Rattle.durable_day.proofs.onward.make_settling.Goals as goal

pub returns-in-Some-clause-made : goal.returns-in-Some-clause-made
returns-in-Some-clause-made c = next_ready c.args.setting.now.day c.args.floor.now.journal.history c.make_ready.new.self.journal.history c.in-Some.place c.requires.all_taken c.in-Some.ensures.made

pub make-requires-clause-line : goal.make-requires-clause-line
make-requires-clause-line c =
    let day = c.args.setting.now.day in
    let J = c.args.floor.now.journal.history in
    let none = c.in-None.ensures.made in
    told_line day J _ c.time_want-want.result c.args.setting.now.sound c.requires.at_work.opened.fits.legal none.1 c.requires.lasts (next_time day J _ c.time_want-want.result c.requires.all_taken none.0 none.1 c.time_want-want.ensures)

pub returns-in-None-clause-made : goal.returns-in-None-clause-made
returns-in-None-clause-made c =
    let day = c.args.setting.now.day in
    let J = c.args.floor.now.journal.history in
    let none = c.in-None.ensures.made in
    made_as day J _ c.time_want-want.result _ _ _ none.1 (next_time day J _ c.time_want-want.result c.requires.all_taken none.0 none.1 c.time_want-want.ensures) c.make.ensures.made
