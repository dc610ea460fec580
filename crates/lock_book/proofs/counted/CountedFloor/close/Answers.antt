use Rattle.std.proofs.Common.{◌∙◌, ap, sym}
use Rattle.commit_journal.specs.Kept.{Kept}
use Rattle.journal_pass.specs.Known.{Known}
use Rattle.lock_book.proofs.counted.CountedFloor.close.Goals as goal

pub returns-clause-before : goal.returns-clause-before
returns-clause-before g c =
    let b = c.look.ensures.before in
    let lines = ap (λ (k : Known). k.lines) c.look.ensures.seen ∙ ap (λ (j : Kept). j.history) c.journal.ensures in
    (b.0, sym c.self.view_is ∙ sym lines ∙ b.1)
