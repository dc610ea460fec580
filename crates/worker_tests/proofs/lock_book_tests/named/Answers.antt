use Rattle.std.proofs.Common.{◌∙◌, ap}
use Rattle.journal_pass.specs.Known.{Known}
use Rattle.lock_book.proofs.Taking.{rounds_kept}
use Rattle.worker_tests.proofs.lock_book_tests.named.Goals as goal

pub returns-in-Some-Book-clause-taken : goal.returns-in-Some-Book-clause-taken
returns-in-Some-Book-clause-taken g c = rounds_kept g.H.HallName.day c.args.hall.now c.args.pass.now.lines c.hint.new.pass.lines c.hint.ensures.before c.requires.taken

pub returns-in_default : goal.returns-in_default
returns-in_default g c = record {
  table = ap (λ (k : Known). k.table) c.hint.ensures.pass ∙ c.requires.table;
  taken = rounds_kept g.H.HallName.day c.args.hall.now c.args.pass.now.lines c.hint.new.pass.lines c.hint.ensures.before c.requires.taken;
}

pub returns-in_default-2-clause-taken : goal.returns-in_default-2-clause-taken
returns-in_default-2-clause-taken g c = rounds_kept g.H.HallName.day c.args.hall.now c.args.pass.now.lines c.hint.new.pass.lines c.hint.ensures.before c.requires.taken
