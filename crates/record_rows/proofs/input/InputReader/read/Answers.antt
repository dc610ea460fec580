use Rattle.std.proofs.Common.{◌≡◌, ◌∙◌, true, false, sym, ap}
use Rattle.record_rows.specs.Input.{Seen, ends_mark, mark_of, place_of}
use Rattle.record_rows.specs.Machine.{Place, comes, shown}
use Rattle.record_rows.proofs.InputFacts.{came_marked, came_next, mark_seen, place_marked, place_next}
use Rattle.record_rows.proofs.input.InputReader.read.Goals as goal

pub returns-then-ends_mark-clause-place : goal.returns-then-ends_mark-clause-place
returns-then-ends_mark-clause-place c = λ input is.
    let marked : ends_mark (mark_of input) c.args.b ≡ true =
    mark_seen c.self.inside.mark (mark_of input) c.args.b c.ends_mark.result true c.ends_mark.ensures c.if-ends_mark.true (ap (λ (s : Seen). s.mark) (c.self.view_is ∙ is)) in
    c.new-self-inside.ensures ∙ sym (ap shown (place_marked input c.args.b marked))

pub returns-then-ends_mark-clause-row : goal.returns-then-ends_mark-clause-row
returns-then-ends_mark-clause-row c = λ input is.
    came_marked input c.args.b c.new-self-inside.result.fields
    (mark_seen c.self.inside.mark (mark_of input) c.args.b c.ends_mark.result true c.ends_mark.ensures c.if-ends_mark.true (ap (λ (s : Seen). s.mark) (c.self.view_is ∙ is)))

pub returns-else-ends_mark-clause-place : goal.returns-else-ends_mark-clause-place
returns-else-ends_mark-clause-place c = λ input is.
    let past : ends_mark (mark_of input) c.args.b ≡ false =
    mark_seen c.self.inside.mark (mark_of input) c.args.b c.ends_mark.result false c.ends_mark.ensures c.if-ends_mark.false (ap (λ (s : Seen). s.mark) (c.self.view_is ∙ is)) in
    c.feed.ensures.place (place_of input) (ap (λ (s : Seen). s.place) (c.self.view_is ∙ is)) ∙ sym (ap shown (place_next input c.args.b past))

pub returns-else-ends_mark-clause-row : goal.returns-else-ends_mark-clause-row
returns-else-ends_mark-clause-row c = λ input is.
    let past : ends_mark (mark_of input) c.args.b ≡ false =
    mark_seen c.self.inside.mark (mark_of input) c.args.b c.ends_mark.result false c.ends_mark.ensures c.if-ends_mark.false (ap (λ (s : Seen). s.mark) (c.self.view_is ∙ is)) in
    let shows : c.self.inside.rows ≡ shown (place_of input) = ap (λ (s : Seen). s.place) (c.self.view_is ∙ is) in
    came_next c.feed.result input c.args.b c.feed.new.self.fields past (c.feed.ensures.row ∙ ap (λ (p : Place). comes p.state c.args.b) shows) (ap (λ (p : Place). p.fields) (c.feed.ensures.place (place_of input) shows))
