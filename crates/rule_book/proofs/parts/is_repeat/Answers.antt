use Rattle.std.proofs.Common.{ap, ◌∙◌}
use Rattle.std.specs.Prelude.{is_some}
use Rattle.batch_records.proofs.RepeatFacts.{earlier_is_repeat}
use Rattle.rule_book.proofs.parts.is_repeat.Goals as goal

pub returns : goal.returns
returns c = c.is_some.ensures ∙ ap is_some c.earlier.ensures ∙ earlier_is_repeat c.args.setting.now.day c.args.n
