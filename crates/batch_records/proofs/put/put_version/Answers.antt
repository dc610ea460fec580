use Rattle.std.proofs.Common.{◌∙◌, ◌∷◌, [], ◌++◌, sym, append-nil}
use Rattle.outside_io.specs.TextLine.{line_feed}
use Rattle.outside_io.proofs.PutLemmas.{has_put_none, puts_all}
use Rattle.batch_records.specs.DayTexts.{version_records}
use Rattle.batch_records.proofs.put.put_version.Goals as goal

pub returns-then-begins_with_ver : goal.returns-then-begins_with_ver
unfolding version_records
returns-then-begins_with_ver g c =
    rw (sym c.begins_with_ver.ensures ∙ c.if-begins_with_ver.true, sym c.version_word.ensures, append-nil (c.version_word.result.now ++ line_feed ∷ [])) c.put_fields.ensures

pub returns-else-begins_with_ver : goal.returns-else-begins_with_ver
unfolding version_records
returns-else-begins_with_ver g c = rw (sym c.begins_with_ver.ensures ∙ c.if-begins_with_ver.false) (puts_all _ _ _ _ (has_put_none _))
