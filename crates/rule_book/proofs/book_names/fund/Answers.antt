use Rattle.std.proofs.Common.{sym}
use Rattle.rule_book.proofs.Filed.{no_fund}
use Rattle.rule_book.proofs.book_names.fund.Goals as goal

pub returns-in-None : goal.returns-in-None
returns-in-None c = sym (no_fund c.args.day.now c.args.system.now c.requires.sound (sym c.in-None.ensures.number))
