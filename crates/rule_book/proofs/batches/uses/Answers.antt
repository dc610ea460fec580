use Rattle.std.proofs.Common.{sym}
use Rattle.rule_book.proofs.Filed.{no_use}
use Rattle.rule_book.proofs.batches.uses.Goals as goal

pub returns-in-None : goal.returns-in-None
returns-in-None c = sym (no_use c.args.setting.now.day c.args.system.now c.args.procedure (sym c.in-None.ensures.number))
