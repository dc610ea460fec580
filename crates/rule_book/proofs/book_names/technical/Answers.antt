use Rattle.std.proofs.Common.{sym}
use Rattle.rule_book.proofs.Filed.{no_technical}
use Rattle.rule_book.proofs.book_names.technical.Goals as goal

pub returns-in-None : goal.returns-in-None
returns-in-None c = sym (no_technical c.args.day.now c.args.system.now c.args.procedure c.requires.sound (sym c.in-None.ensures.number))
