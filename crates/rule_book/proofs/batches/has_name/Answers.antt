use Rattle.std.proofs.Common.{◌∙◌}
use Rattle.rule_book.proofs.NamedOnce.{has_name, no_account}
use Rattle.rule_book.proofs.batches.has_name.Goals as goal

pub returns-in-Some : goal.returns-in-Some
returns-in-Some c = c.eq.ensures ∙ has_name c.args.setting.now.day c.args.name.now c.args.a c.in-Some.record.now c.args.setting.now.sound c.in-Some.ensures

pub returns-in-None : goal.returns-in-None
returns-in-None c = no_account c.args.setting.now.day c.args.name.now c.args.a c.in-None.ensures
