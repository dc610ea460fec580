use Rattle.std.proofs.Common.{◌∙◌, sym, ap, arith}
use Rattle.std.specs.List.{list_all, zip}
use Rattle.std.proofs.lemmas.Bool.{false≢true}
use Rattle.journal_replay.proofs.Comparing.{is_same_pair, moves_are, moves_themselves}
use Rattle.journal_replay.proofs.same.same_moves.Goals as goal

pub returns-clause-same : goal.returns-clause-same
returns-clause-same c = λ h. moves_are c.args.some.now c.args.others.now (omega arith) (sym c.same_pairs.ensures ∙ h)

pub returns-clause-apart : goal.returns-clause-apart
returns-clause-apart c = λ h e.
    false≢true (sym h ∙ c.same_pairs.ensures ∙ ap (λ others. list_all is_same_pair (zip c.args.some.now others)) (sym e) ∙ moves_themselves c.args.some.now)
