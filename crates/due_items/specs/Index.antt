-- What is found out about a day once: the row of its items, and the chains of its messages.
use Rattle.std.specs.Prelude.{◌≡◌, ℕ}
use Rattle.batch_records.specs.DayRecord.{Day}
use Rattle.due_items.specs.declared.chain.Key.{Key}
use Rattle.due_items.specs.declared.chain.Key.TheVariants as keys
use Rattle.due_items.specs.declared.row.Room.{Room}
use Rattle.due_items.specs.Chains.{Chain, chain_of, chain_upto, no_chain}
use Rattle.due_items.specs.Row.{Row, no_row, row_of, row_upto}

pub record Index : Type 0 where
  pub row : Row
  pub infos : Chain
  pub froms : Chain
  pub tills : Chain
  pub cycles : Chain

abbrev pub index_of : Day → Room → Index
index_of day room = record { row = row_of day room; infos = chain_of keys.Info day room.messages; froms = chain_of keys.From day room.messages; tills = chain_of keys.Till day room.messages; cycles = chain_of keys.Cycle day room.messages }

-- the index is the day's, whatever room is left
abbrev pub IsIndexOf : Day → Index → Type 0
IsIndexOf day index = index ≡ index_of day index.row.room

-- of no message
abbrev pub no_index : Room → Index
no_index room = record { row = no_row room; infos = no_chain room.messages; froms = no_chain room.messages; tills = no_chain room.messages; cycles = no_chain room.messages }

-- of the messages from 1 to n
abbrev pub index_upto : Day → ℕ → Room → Index
index_upto day n room = record { row = row_upto day n room; infos = chain_upto keys.Info day n room.messages; froms = chain_upto keys.From day n room.messages; tills = chain_upto keys.Till day n room.messages; cycles = chain_upto keys.Cycle day n room.messages }

abbrev pub IsIndexUpto : Day → ℕ → Index → Type 0
IsIndexUpto day n index = index ≡ index_upto day n index.row.room

abbrev pub chain_in : Key → Index → Chain
chain_in keys.Info index = index.infos
chain_in keys.From index = index.froms
chain_in keys.Till index = index.tills
chain_in keys.Cycle index = index.cycles
