use Rattle.std.proofs.Common.{◌-◌, refl, subst, sym}
use Rattle.commit_journal.specs.Line.{History, Line}
use Rattle.commit_journal.specs.Histories.{oldest}
use Rattle.machine.specs.Legal.{IsLegal}
use Rattle.day_facts.specs.Facts.{StandsFor}
use Rattle.due_items.specs.Kept.{KeepsDue}
use Rattle.day_page.specs.Stakes.{IsKeptBut}
use Rattle.day_page.proofs.StakeFacts.{kept_but}
use Rattle.day_page.proofs.peaks.note.Goals as goal

pub renew-requires-clause-due : goal.renew-requires-clause-due
renew-requires-clause-due c =
    let day = c.args.setting.now.day in
    let J = oldest c.args.journal.now.history (c.args.place - 1) in
    let l : Line = record { head = c.line.result.0; moves = c.line.result.1.now } in
    subst (λ (K : History). KeepsDue day K c.note.new.self) (sym c.line.ensures) (c.note.ensures.kept J l refl (subst (λ (K : History). StandsFor day K c.note_at.new.facts) c.line.ensures c.note_at.ensures.stands) c.requires.due)

pub renew-requires-clause-kept : goal.renew-requires-clause-kept
renew-requires-clause-kept c =
    let day = c.args.setting.now.day in
    let J = oldest c.args.journal.now.history (c.args.place - 1) in
    let l : Line = record { head = c.line.result.0; moves = c.line.result.1.now } in
    let tells = c.note.ensures.told J l refl (subst (λ (K : History). StandsFor day K c.note_at.new.facts) c.line.ensures c.note_at.ensures.stands) c.requires.due in
    subst (λ (K : History). IsKeptBut day c.args.request.now K c.note.new.self.renewed c.args.ledger.now) (sym c.line.ensures) (kept_but day c.args.request.now J l c.note.new.self.renewed c.args.ledger.now (subst (IsLegal day) c.line.ensures c.requires.legal) tells c.requires.kept)

pub returns-clause-line : goal.returns-clause-line
returns-clause-line c = (record { head = c.line.result.0; moves = c.line.result.1.now }, c.line.ensures)
