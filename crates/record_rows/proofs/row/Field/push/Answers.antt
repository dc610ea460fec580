use Rattle.std.proofs.Common.{◌∙◌, sym}
use Rattle.record_rows.proofs.KeptFacts.{kept_byte, kept_full}
use Rattle.record_rows.proofs.row.Field.push.Goals as goal

pub returns-then-not-is_full : goal.returns-then-not-is_full
returns-then-not-is_full c = λ field is.
    kept_byte c.self.inside.bytes.items c.push.new.self.items field c.args.b c.is_full.result c.is_full.ensures.value c.if-not-is_full.true c.is_full.ensures.fits c.push.ensures.items (c.self.view_is ∙ is)

pub returns-else-not-is_full : goal.returns-else-not-is_full
returns-else-not-is_full c = λ field is.
    sym c.self.view_is ∙ kept_full c.self.inside.bytes.items field c.args.b c.is_full.result c.is_full.ensures.value c.if-not-is_full.false (c.self.view_is ∙ is)
