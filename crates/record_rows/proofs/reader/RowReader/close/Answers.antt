use Rattle.std.proofs.Common.{◌∙◌, sym}
use Rattle.record_rows.specs.Machine.{state_of}
use Rattle.record_rows.proofs.PlaceFacts.{none_open, one_open, placed}
use Rattle.record_rows.proofs.reader.RowReader.close.Goals as goal

pub returns-then-between-clause-closes : goal.returns-then-between-clause-closes
returns-then-between-clause-closes c = λ p is.
    none_open p (placed (state_of c.self.inside.stage) c.self.inside.row c.self.inside.field) c.args.self.now.fields (c.self.view_is ∙ is) (sym c.is_between-between.ensures ∙ c.if-between.true)

pub returns-clause-closes : goal.returns-clause-closes
returns-clause-closes c = λ p is.
    one_open p (placed (state_of c.self.inside.stage) c.self.inside.row c.self.inside.field) (placed (state_of c.self-2.inside.stage) c.self-2.inside.row c.self-2.inside.field) (c.self.view_is ∙ is)
    (sym c.is_between-between.ensures ∙ c.if-between.false) (c.self-2.view_is ∙ c.end_field.ensures p is)
