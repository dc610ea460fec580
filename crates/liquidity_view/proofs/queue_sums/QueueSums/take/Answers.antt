use Rattle.std.proofs.Common.{◌-◌, refl, subst, sym}
use Rattle.commit_journal.specs.Line.{Line, History}
use Rattle.commit_journal.specs.Histories.{oldest}
use Rattle.day_facts.specs.Facts.{StandsFor}
use Rattle.due_items.specs.Kept.{KeepsDue}
use Rattle.liquidity_view.specs.Views.{QueueStands}
use Rattle.liquidity_view.proofs.CountFacts.{line_counted}
use Rattle.liquidity_view.proofs.ViewLines.{legal_oldest}
use Rattle.liquidity_view.proofs.queue_sums.QueueSums.take.Goals as goal

pub note_at-requires-clause-legal : goal.note_at-requires-clause-legal
note_at-requires-clause-legal c = legal_oldest c.args.setting.now.day c.args.place c.args.journal.now.history c.requires.legal

pub note_at-requires-clause-stands : goal.note_at-requires-clause-stands
note_at-requires-clause-stands c = (subst (QueueStands c.args.setting.now.day c.args.name.now (oldest c.args.journal.now.history (c.args.place - 1))) (sym c.self.view_is) c.requires.stands).facts

pub recount-requires-clause-due : goal.recount-requires-clause-due
recount-requires-clause-due c =
    let day = c.args.setting.now.day in
    let J = oldest c.args.journal.now.history (c.args.place - 1) in
    let l : Line = record { head = c.line.result.0; moves = c.line.result.1.now } in
    let before = subst (QueueStands day c.args.name.now J) (sym c.self.view_is) c.requires.stands in
    subst (λ (K : History). KeepsDue day K c.note.new.self) (sym c.line.ensures) (c.note.ensures.kept J l refl (subst (λ (K : History). StandsFor day K c.note_at.new.facts) c.line.ensures c.note_at.ensures.stands) before.due)

pub recount-requires-clause-sums : goal.recount-requires-clause-sums
recount-requires-clause-sums c = (subst (QueueStands c.args.setting.now.day c.args.name.now (oldest c.args.journal.now.history (c.args.place - 1))) (sym c.self.view_is) c.requires.stands).sums

pub returns : goal.returns
returns c =
    let day = c.args.setting.now.day in
    let J = oldest c.args.journal.now.history (c.args.place - 1) in
    let l : Line = record { head = c.line.result.0; moves = c.line.result.1.now } in
    let before = subst (QueueStands day c.args.name.now J) (sym c.self.view_is) c.requires.stands in
    record {
      facts = c.note_at.ensures.stands;
      due = c.recount.ensures.due;
      sums = c.recount.ensures.sums;
      exact = line_counted day J (oldest c.args.journal.now.history c.args.place) l _ _ _ c.line.ensures (legal_oldest day c.args.place c.args.journal.now.history c.requires.legal)
          (c.note.ensures.told J l refl (subst (λ (K : History). StandsFor day K c.note_at.new.facts) c.line.ensures c.note_at.ensures.stands) before.due) before.exact c.recount.ensures.renewed;
    }
