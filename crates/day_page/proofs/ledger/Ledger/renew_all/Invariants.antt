use Rattle.commit_journal.specs.Histories.{oldest}
use Rattle.day_page.specs.Stakes.{IsKeptBelow}
use Rattle.day_page.proofs.ledger.Ledger.renew_all.Given as goal

abbrev pub invariant-loop-number : goal.invariant-loop-number
invariant-loop-number l = record { kept : IsKeptBelow l.past.setting.now.day l.request (oldest l.past.journal.now.history l.past.place) l.number l.self }
