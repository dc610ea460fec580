-- Balances: the opening, plus what was credited, less what was debited.
use Rattle.std.specs.Prelude.{ℕ, ◌+◌, ◌-◌, if◌then◌else◌, List, [], ◌∷◌, nat_eq}
use Rattle.batch_records.specs.DayRecord.{Day}
use Rattle.commit_journal.specs.declared.line.Move.{Move}
use Rattle.commit_journal.specs.Line.{History}
use Rattle.machine.specs.Records.Setup.{opening}

-- what a list of moves brings to an account, and takes from it
abbrev pub credits : ℕ → List Move → ℕ
credits a [] = 0
credits a (m ∷ moves) = (if nat_eq m.credit a then m.amount else 0) + credits a moves

abbrev pub debits : ℕ → List Move → ℕ
debits a [] = 0
debits a (m ∷ moves) = (if nat_eq m.debit a then m.amount else 0) + debits a moves

unfoldable pub credited : History → ℕ → ℕ
credited [] a = 0
credited (l ∷ J) a = credited J a + credits a l.moves

unfoldable pub debited : History → ℕ → ℕ
debited [] a = 0
debited (l ∷ J) a = debited J a + debits a l.moves

-- exact on every legal history: there an account's debits are never above its opening and credits
abbrev pub balance : Day → History → ℕ → ℕ
balance day J a = (opening day a + credited J a) - debited J a
