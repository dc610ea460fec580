use Rattle.std.proofs.Common.{ap, ◌∙◌, sym}
use Rattle.std.specs.Prelude.{is_some}
use Rattle.cash_amounts.specs.Tests.{same_name}
use Rattle.rule_book.proofs.Numbering.{is_found}
use Rattle.rule_book.proofs.batches.is_system.Goals as goal

pub returns : goal.returns
returns c = c.is_some.ensures ∙ ap is_some c.system_number.ensures.number ∙ sym (is_found (λ r. same_name r.name c.args.name.now) c.args.setting.now.day.systems)
