use Rattle.std.proofs.Common.{◌∙◌, sym, subst}
use Rattle.commit_journal.specs.Histories.{Begins}
use Rattle.commit_journal.specs.Line.{History}
use Rattle.machine.specs.Legal.{IsLegal}
use Rattle.lock_book.proofs.Loading.{is_balanced}
use Rattle.lock_book.proofs.hall.Hall.close.Goals as goal

pub returns-clause-balanced : goal.returns-clause-balanced
returns-clause-balanced g c =
    let day = g.H.HallName.day in
    is_balanced day c.close-journal.new.till c.close-journal.result c.into_balances.result c.into_balances.ensures.all c.into_balances.ensures.kept
    (c.close-journal.ensures.journal ∙ sym c.close-journal.ensures.till) (subst (IsLegal day) (sym c.close-journal.ensures.till) c.close-journal.ensures.legal)

pub returns-clause-before : goal.returns-clause-before
returns-clause-before g c = subst (λ (J : History). Begins c.args.pass.lines J) (sym c.close-journal.ensures.journal) c.close-journal.ensures.before
