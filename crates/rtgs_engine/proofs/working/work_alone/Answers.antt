use Rattle.std.proofs.Common.{◌∙◌, sym}
use Rattle.batch_records.specs.Counts.{record_count}
use Rattle.rtgs_engine.proofs.Texts.{says_more}
use Rattle.rtgs_engine.proofs.working.work_alone.Goals as goal

pub returns-else-is_blank : goal.returns-else-is_blank
returns-else-is_blank g c =
    says_more g.S.Sink.state _ _ _ c.args.day c.args.rest (record_count c.args.day) _ c.requires.sound (sym c.is_blank.ensures ∙ c.if-is_blank.false) c.refuse_rest.ensures
