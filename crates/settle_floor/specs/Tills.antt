-- What a till has to do with a journal.
use Rattle.std.specs.Prelude.{ℕ, ◌≡◌, Option, Some}
use Rattle.batch_records.specs.DayRecord.{Day}
use Rattle.commit_journal.specs.Line.{History}
use Rattle.machine.specs.Telling.Balances.{balance}

-- each account that is at hand has the balance that the history gives it
abbrev pub KeepsBalances : (ℕ → Option ℕ) → Day → History → Type 0
KeepsBalances holdings day J = (a held : ℕ) → holdings a ≡ Some held → held ≡ balance day J a
