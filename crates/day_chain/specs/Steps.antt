-- What the steps along a chain of days do.
use Rattle.std.specs.Prelude.{ℕ, ◌≡◌, ◌≤◌, ◌⊎◌, List, ◌∷◌, length, Result, Ok, Err}
use Rattle.refused_memory.specs.{WasRefused}
use Rattle.outside_io.specs.Pieces.{HasPut, IsCutShort, SinkState}
use Rattle.batch_records.specs.DayRecord.{Day}
use Rattle.cash_amounts.specs.Numbers.{numbered}
use Rattle.program_answers.specs.Answers.{Answer}
use Rattle.program_answers.specs.Giving.{Says}
use Rattle.machine.specs.Orders.Order.{plain}
use Rattle.settle_floor.specs.Floors.{IsBalanced}
use Rattle.day_chain.specs.declared.days.Prepared.{Prepared}
use Rattle.day_chain.specs.declared.ledger.Ledger.{Ledger}
use Rattle.day_chain.specs.Answers.{next_day}
use Rattle.day_chain.specs.ChainTexts.{part_text}
use Rattle.day_chain.specs.Ledgers.{IsOpened, Stands}

-- what is kept beside a day that joins and is settled
pub record IsPrepared (told : List Day) (day : Day) (prepared : Prepared) : Type 0 where
  pub count : prepared.count ≡ length told
  pub opened : IsOpened day told prepared.year prepared.years.items
  pub same : prepared.settled.setting.day ≡ day
  pub lines : prepared.settled.journal.history ≡ plain day
  pub balanced : IsBalanced prepared.settled.setting.day prepared.settled.journal (numbered prepared.settled.till)

-- a day that joins is told, and kept; or a request for memory was refused, and nothing is written; or the sink fails
abbrev pub TellsDay : List Day → Day → SinkState → SinkState → Result Ledger ℕ → Type 0
TellsDay told day old new (Ok ledger) = HasPut old new (part_text day) × Stands (day ∷ told) ledger
TellsDay told day old new (Err status) = ((status ≡ 1) × (new ≡ old) × WasRefused) ⊎ ((status ≡ 5) × IsCutShort old new (part_text day))

-- The next day is told: it has so many bytes. Or there is none that joins, which is said; or it isn't told whole.
abbrev pub TakesNext : List Day → List ℕ → SinkState → SinkState → Result (Ledger × ℕ) ℕ → Type 0
TakesNext told bytes old new (Ok (ledger, n)) = (day : Day) × (next_day told bytes ≡ Ok (day, n)) × (n ≤ length bytes) × HasPut old new (part_text day) × Stands (day ∷ told) ledger
TakesNext told bytes old new (Err status) =
    ((status ≡ 1) × (new ≡ old) × WasRefused)
    ⊎ (((answer : Answer) × (next_day told bytes ≡ Err answer) × Says old new answer status)
    ⊎ ((day : Day) × (n : ℕ) × (next_day told bytes ≡ Ok (day, n)) × (status ≡ 5) × IsCutShort old new (part_text day)))
