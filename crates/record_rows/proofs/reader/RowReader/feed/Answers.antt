use Rattle.std.proofs.Common.{◌≡◌, ◌∙◌, ap}
use Rattle.record_rows.specs.Machine.{moves, opened, shown, state_of}
use Rattle.record_rows.proofs.PlaceFacts.{fed, opened_shown, placed}
use Rattle.record_rows.proofs.reader.RowReader.feed.Goals as goal

pub returns-clause-place : goal.returns-clause-place
returns-clause-place c = λ p is.
    let opens : c.open.new.self ≡ shown (opened p) = c.open.ensures ∙ ap opened is ∙ opened_shown p in
    fed p c.args.b (moves c.step-stage.result) (placed (state_of c.self.inside.stage) c.self.inside.row c.self.inside.field) (placed (state_of c.self-2.inside.stage) c.self-2.inside.row c.self-2.inside.field)
    (c.self.view_is ∙ opens) c.step-stage.ensures (c.self-2.view_is ∙ c.act.ensures (opened p) opens)
