use Rattle.std.proofs.Common.{sym}
use Rattle.rule_book.proofs.Filed.{no_system}
use Rattle.rule_book.proofs.book_names.system_number.Goals as goal

pub returns-in-None-clause-number : goal.returns-in-None-clause-number
returns-in-None-clause-number c = sym (no_system c.args.day.now c.args.name.now c.requires.sound c.in-None.ensures)
