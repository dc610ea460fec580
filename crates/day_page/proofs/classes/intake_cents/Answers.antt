use Rattle.std.proofs.Common.{◌∙◌, ◌-◌, sym}
use Rattle.commit_journal.specs.Line.{Line}
use Rattle.commit_journal.specs.Histories.{oldest}
use Rattle.day_page.proofs.TakenFacts.{not_taken, taken_legal, taken_moves, taken_within}
use Rattle.day_page.proofs.Totals.{few_moved}
use Rattle.day_page.proofs.classes.intake_cents.Goals as goal

pub line-requires-clause-from : goal.line-requires-clause-from
line-requires-clause-from c = (taken_within c.args.past.now.journal.now.history c.args.past.now.place c.args.n c.in-Some.place (sym c.in-Some.ensures)).0

pub line-requires-clause-to : goal.line-requires-clause-to
line-requires-clause-to c = (taken_within c.args.past.now.journal.now.history c.args.past.now.place c.args.n c.in-Some.place (sym c.in-Some.ensures)).1

pub moved_cents-requires : goal.moved_cents-requires
moved_cents-requires c =
    let H = c.args.past.now.journal.now.history in
    let day = c.args.past.now.setting.now.day in
    let l : Line = record { head = c.line.result.0; moves = c.line.result.1.now } in
    record { few = few_moved day l (oldest H c.in-Some.place) (oldest H (c.in-Some.place - 1)) c.args.past.now.setting.now.sound (taken_legal day H c.args.past.now.place c.args.n c.in-Some.place c.args.past.now.stands.legal (sym c.in-Some.ensures)) c.line.ensures }

pub returns-in-Some-clause-value : goal.returns-in-Some-clause-value
returns-in-Some-clause-value c =
    let H = c.args.past.now.journal.now.history in
    let l : Line = record { head = c.line.result.0; moves = c.line.result.1.now } in
    c.moved_cents.ensures.value ∙ taken_moves H c.args.past.now.place c.args.n c.in-Some.place l (oldest H (c.in-Some.place - 1)) (sym c.in-Some.ensures) c.line.ensures

pub returns-in-None-clause-value : goal.returns-in-None-clause-value
returns-in-None-clause-value c = not_taken (oldest c.args.past.now.journal.now.history c.args.past.now.place) c.args.n (sym c.in-None.ensures)
