use Rattle.std.proofs.Common.{sym}
use Rattle.rule_book.proofs.Filed.{no_bank}
use Rattle.rule_book.proofs.parts.is_bank.Goals as goal

pub returns-in-None : goal.returns-in-None
returns-in-None c = sym (no_bank c.args.setting.now.day c.args.name.now c.args.setting.now.sound c.in-None.ensures)
