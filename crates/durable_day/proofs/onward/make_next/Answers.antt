use Rattle.std.proofs.Common.{refl, sym}
use Rattle.commit_journal.specs.declared.line.Want.TheVariants as wants
use Rattle.durable_day.proofs.NextFacts.{made_as, next_taken, told_line}
use Rattle.durable_day.proofs.onward.make_next.Goals as goal

pub make-requires-clause-line : goal.make-requires-clause-line
make-requires-clause-line c =
    let day = c.args.setting.now.day in
    let J = c.args.floor.now.journal.history in
    told_line day J J (wants.In c.in-Some.msg) c.args.setting.now.sound c.requires.at_work.opened.fits.legal refl c.requires.lasts (next_taken day J c.in-Some.msg c.in-Some.ensures)

pub returns-in-Some-clause-made : goal.returns-in-Some-clause-made
returns-in-Some-clause-made c =
    let day = c.args.setting.now.day in
    let J = c.args.floor.now.journal.history in
    made_as day J J (wants.In c.in-Some.msg) _ _ _ refl (next_taken day J c.in-Some.msg c.in-Some.ensures) c.make.ensures.made

pub make_settling-requires-clause-all_taken : goal.make_settling-requires-clause-all_taken
make_settling-requires-clause-all_taken c = sym c.in-None.ensures
