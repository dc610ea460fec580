use Rattle.std.proofs.Common.{◌∙◌, ap, is_some, sym}
use Rattle.std.proofs.lemmas.Bool.{false≢true}
use Rattle.settle_floor.specs.Floors.{OnFloor}
use Rattle.day_reasons.proofs.work.Work.follow.Goals as goal

pub follow_line-requires-clause-at_work : goal.follow_line-requires-clause-at_work
follow_line-requires-clause-at_work c = c.requires.work.at_work

pub follow_line-requires-clause-moves : goal.follow_line-requires-clause-moves
follow_line-requires-clause-moves c = c.requires.work.moves

pub note-requires-clause-at_work : goal.note-requires-clause-at_work
note-requires-clause-at_work c = c.follow_line.ensures.at_work

pub note-requires-clause-moves : goal.note-requires-clause-moves
note-requires-clause-moves c = c.follow_line.ensures.moves

pub note-requires-clause-before : goal.note-requires-clause-before
note-requires-clause-before c =
    let next = c.in-Some.ensures.next in
    record { newest = next.0; older = c.args.self.now.floor.journal.history; lines = next.2; facts = c.requires.work.facts; pending = c.requires.work.pending }

pub unreachable-requires : goal.unreachable-requires
unreachable-requires c = false≢true (sym (ap is_some c.in-None.ensures.next) ∙ c.requires.there)

pub returns-clause-next : goal.returns-clause-next
returns-clause-next c =
    let next = c.in-Some.ensures.next in
    (next.0, next.1, ap (λ (f : OnFloor). f.journal.history) c.note.ensures.floor ∙ next.2)

pub returns-clause-work : goal.returns-clause-work
returns-clause-work c = c.note.ensures.work
