use Rattle.std.proofs.Common.{refl, subst, sym, ap, ◌∷◌, ◌∙◌}
use Rattle.commit_journal.specs.Kept.{Kept}
use Rattle.commit_journal.specs.Line.{History, Line}
use Rattle.day_facts.specs.Facts.{StandsFor}
use Rattle.pending_items.specs.Kept.{KeepsPending}
use Rattle.due_items.specs.Kept.{KeepsDue}
use Rattle.ready_items.specs.Kept.{KeepsReady}
use Rattle.clock_stops.specs.Kept.{KeepsStops}
use Rattle.machine.specs.Legal.{IsLegal}
use Rattle.settle_floor.specs.Floors.{HasPlaces, IsIndex, OnFloor}
use Rattle.settle_floor.proofs.RoomFacts.{due_still}
use Rattle.settle_floor.proofs.indexed.Indexed.push.Goals as goal

-- each part notes the line, by the facts that have noted it
pub returns-clause-index : goal.returns-clause-index
returns-clause-index c =
    let day = c.args.setting.now.day in
    let l : Line = record { head = c.args.head; moves = c.args.moves.now } in
    let J = c.self.inside.journal.history in
    let legal = subst (λ (f : OnFloor). IsLegal day (l ∷ f.journal.history)) (sym c.self.view_is) c.requires.legal in
    let before = subst (λ (f : OnFloor). IsIndex day f.journal.history f.index) (sym c.self.view_is) c.requires.index in
    let stands = c.note.ensures.lines J l refl legal before.stands in
    let with_line = sym (ap (λ (k : Kept). k.history) c.push.ensures) in
    let due = c.note-3.ensures.kept J l refl stands before.due in
    record {
      stands = subst (λ (K : History). StandsFor day K c.note.new.self) with_line stands;
      queued = subst (λ (K : History). KeepsPending day K c.note-2.new.self) with_line (c.note-2.ensures.kept J l refl legal stands before.queued);
      due = subst (λ (K : History). KeepsDue day K c.note-4.new.due) with_line (c.note-4.ensures.due day (l ∷ J) due);
      ready = subst (λ (K : History). KeepsReady day K c.note-4.new.self) with_line (c.note-4.ensures.ready J l refl stands due (c.note-3.ensures.told J l refl stands before.due) before.ready);
      stops = subst (λ (K : History). KeepsStops day K c.note-5.new.self) with_line (c.note-5.ensures J l refl legal before.stops);
    }

-- and keeps its room
pub returns-clause-places : goal.returns-clause-places
returns-clause-places c = λ messages more there.
    let day = c.args.setting.now.day in
    let l : Line = record { head = c.args.head; moves = c.args.moves.now } in
    let J = c.self.inside.journal.history in
    let legal = subst (λ (f : OnFloor). IsLegal day (l ∷ f.journal.history)) (sym c.self.view_is) c.requires.legal in
    let before = subst (λ (f : OnFloor). IsIndex day f.journal.history f.index) (sym c.self.view_is) c.requires.index in
    let stands = c.note.ensures.lines J l refl legal before.stands in
    let places = subst (λ (f : OnFloor). HasPlaces messages more f.index) (sym c.self.view_is) there in
    record {
      facts = c.note.ensures.room messages more places.facts;
      pending = c.note-2.ensures.room J l refl legal stands before.queued messages more places.pending;
      due = due_still messages more c.self.inside.items.due c.note-4.new.due (c.note-4.ensures.index ∙ c.note-3.ensures.room) places.due;
      ready = c.note-4.ensures.room messages more places.ready;
    }
