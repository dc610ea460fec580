use Rattle.std.proofs.Common.{◌∙◌, sym}
use Rattle.record_rows.proofs.KeptFacts.{kept_all, kept_more}
use Rattle.record_rows.proofs.row.Row.push.Goals as goal

pub returns-then-not-is_full : goal.returns-then-not-is_full
returns-then-not-is_full c = λ row text is kept.
    kept_more c.self.inside.fields.items c.push.new.self.items row c.args.field text c.is_full.result c.is_full.ensures.value c.if-not-is_full.true c.is_full.ensures.fits c.push.ensures.items (c.self.view_is ∙ is) kept

pub returns-else-not-is_full : goal.returns-else-not-is_full
returns-else-not-is_full c = λ row text is kept.
    sym c.self.view_is ∙ kept_all c.self.inside.fields.items row text c.is_full.result c.is_full.ensures.value c.if-not-is_full.false (c.self.view_is ∙ is)
