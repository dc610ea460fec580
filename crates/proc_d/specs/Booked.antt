-- The machine's words for a batch of D, of the moves of its entries. That they are the machine's is proved.
use Rattle.std.specs.Prelude.{ℕ, ◌-◌, Bool, true, false, ◌&&◌, List, [], ◌∷◌, Option, nat_lt}
use Rattle.batch_records.specs.DayRecord.{Day}
use Rattle.commit_journal.specs.declared.line.Move.{Move}
use Rattle.rule_book.specs.Moves.{comes_from, is_dca_at}

-- from the technical account to a dedicated cash account
abbrev pub is_paid_out : Day → Option ℕ → Move → Bool
is_paid_out day technical found = comes_from technical found && is_dca_at day found.credit

-- in order, each that the balance covers, less those before it
abbrev pub afforded : ℕ → List Move → List Move
afforded available [] = []
afforded available (found ∷ rest) =
    elim (nat_lt available found.amount) [ true ↦ afforded available rest | false ↦ found ∷ afforded (available - found.amount) rest ]
