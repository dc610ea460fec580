use Rattle.std.proofs.Common.{subst, sym}
use Rattle.commit_journal.specs.Histories.{Begins}
use Rattle.journal_pass.specs.Known.{Known}
use Rattle.journal_pass.proofs.Beginnings.{begins-trans}
use Rattle.lock_book.proofs.hall.Hall.finish_round.Goals as goal

pub returns-clause-before : goal.returns-clause-before
returns-clause-before g c =
    let P = c.args.pass.now.lines in
    subst (λ (k : Known). Begins P k.lines) (sym c.finish-ended.ensures.pass)
    (begins-trans P c.get_mut-floor.result.now c.finish-ended.new.self c.finish-ended.ensures.before c.finish-ended.ensures.grows)
