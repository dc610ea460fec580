use Rattle.std.proofs.Common.{◌∙◌, sym, ap, arith}
use Rattle.commit_journal.specs.Kept.{Kept}
use Rattle.commit_journal.specs.Histories.{moves_of}
use Rattle.commit_journal.proofs.StoredLemmas.{moves_of-stored}
use Rattle.commit_journal.proofs.journal.Journal.moves.Goals as goal

pub returns : goal.returns
returns c =
    let j = c.self.inside in
    c.as_slice.ensures.value
    ∙ sym (moves_of-stored j.stored.items j.moves.items (omega (arith, c.self.invariant, j.moves.ok)))
    ∙ ap (λ (k : Kept). moves_of k.history) c.self.view_is
