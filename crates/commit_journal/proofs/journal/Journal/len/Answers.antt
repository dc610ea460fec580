use Rattle.std.proofs.Common.{length, reverse, ap, arith}
use Rattle.std.proofs.lemmas.List.{length-reverse}
use Rattle.commit_journal.specs.Kept.{Kept}
use Rattle.commit_journal.proofs.StoredLemmas.{length-unstack}
use Rattle.commit_journal.proofs.journal.Journal.len.Goals as goal

pub overflow_cast-result : goal.overflow_cast-result
overflow_cast-result c = omega (arith, c.self.invariant)

pub returns : goal.returns
returns c =
    let j = c.self.inside in
    let view = ap (λ (k : Kept). length k.history) c.self.view_is in
    omega (arith, view, j.stored.ok, length-unstack (reverse j.stored.items) (reverse j.moves.items), length-reverse j.stored.items)
