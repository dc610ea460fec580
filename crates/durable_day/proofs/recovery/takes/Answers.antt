use Rattle.std.proofs.Common.{ℕ, List, [], Some, length, sym, ap, ◌∙◌}
use Rattle.std.proofs.lemmas.Bool.{eqb-true, eqb-false}
use Rattle.durable_day.proofs.WalkFacts.{empty_is, never_both, other_rest}
use Rattle.durable_day.proofs.recovery.takes.Goals as goal

pub returns-in-Some-clause-taken : goal.returns-in-Some-clause-taken
returns-in-Some-clause-taken c = λ alone.
    let next = c.in-Some.ensures.next in
    let rest = empty_is c.in-Some.rest.now (eqb-true (length c.in-Some.rest.now) 0 (sym c.is_empty.ensures ∙ alone)) in
    (next.0, next.1 ∙ ap (λ (xs : List ℕ). Some (next.0, xs)) rest, next.2)

pub returns-in-Some-clause-other : goal.returns-in-Some-clause-other
returns-in-Some-clause-other c = λ more l h.
    let next = c.in-Some.ensures.next in
    eqb-false (length c.in-Some.rest.now) 0 (sym c.is_empty.ensures ∙ more) (ap length (other_rest _ next.0 l c.in-Some.rest.now next.1 h))

pub returns-in-None-clause-other : goal.returns-in-None-clause-other
returns-in-None-clause-other c = λ none l h. never_both _ (l, []) c.in-None.ensures.next h
