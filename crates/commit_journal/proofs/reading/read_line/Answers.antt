use Rattle.std.proofs.Common.{◌∙◌, ℕ, List, Some, sym, ap, arith}
use Rattle.commit_journal.specs.Line.{Line}
use Rattle.commit_journal.specs.FieldGrammar.{Read}
use Rattle.commit_journal.proofs.ReadingLemmas.{rest_stands}
use Rattle.commit_journal.proofs.reading.read_line.Goals as goal

pub overflow_sub-result : goal.overflow_sub-result
overflow_sub-result c = (rest_stands c.args.most c.args.place c.args.input.now c.in-Some.rest.now _ (omega arith) c.in-Some.ensures.read).0

pub returns-in-Some-clause-ok : goal.returns-in-Some-clause-ok
returns-in-Some-clause-ok c =
    let l : Line = record { head = c.in-Some.head; moves = c.take_line.new.moves.moves } in
    let read : List ℕ → Read Line = λ rest. Some (l, rest) in
    c.in-Some.ensures.read ∙ ap read (sym (rest_stands c.args.most c.args.place c.args.input.now c.in-Some.rest.now l (omega arith) c.in-Some.ensures.read).2)

pub returns-in-Some-clause-length : goal.returns-in-Some-clause-length
returns-in-Some-clause-length c = (rest_stands c.args.most c.args.place c.args.input.now c.in-Some.rest.now _ (omega arith) c.in-Some.ensures.read).1
