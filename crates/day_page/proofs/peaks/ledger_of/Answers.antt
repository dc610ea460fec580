use Rattle.std.proofs.Common.{subst, sym}
use Rattle.std.specs.Prelude.{IfOk}
use Rattle.commit_journal.specs.Line.{History}
use Rattle.due_items.specs.Kept.{KeepsDue}
use Rattle.day_page.specs.Stakes.{IsKept}
use Rattle.day_page.proofs.Beginnings.{none_so_far, stands_first}
use Rattle.day_page.proofs.peaks.ledger_of.Goals as goal

pub invariant_of-past : goal.invariant_of-past
invariant_of-past c = record { stands = stands_first c.args.setting.now.day c.args.journal.now.history _ c.requires.first }

pub over-requires : goal.over-requires
over-requires c = subst (λ (J : History). KeepsDue c.args.setting.now.day J c.args.due.now) (sym (none_so_far c.args.journal.now.history)) c.requires.due

pub returns : goal.returns
returns c = subst (λ (J : History). IfOk c.over.result (λ ledger. IsKept c.args.setting.now.day c.args.request.now J ledger)) (none_so_far c.args.journal.now.history) c.over.ensures
