-- What makes a hall.
use Rattle.std.specs.Prelude.{◌≡◌, ℕ, [], length}
use Rattle.atomic_table.specs.Seated.{TableId}
use Rattle.batch_records.specs.DayRecord.{Day}
use Rattle.journal_pass.specs.Known.{TableOf}
use Rattle.settle_floor.specs.Floors.{IsFor}
use Rattle.lock_book.specs.declared.group.Four.{Four}
use Rattle.lock_book.specs.declared.group.Part.{Part}
use Rattle.lock_book.specs.declared.kit.HallKit.TheInside.{Inside}
use Rattle.lock_book.specs.declared.kit.Parts.{Parts}
use Rattle.lock_book.specs.Groups.{IsGroup}
use Rattle.lock_book.specs.RoundTills.{IsRoundTill}

-- what will be a group, and has seen nothing
pub record IsPart (table : TableId) (day : Day) (number : ℕ) (part : Part) : Type 0 where
  pub unseen : part.pass.lines ≡ []
  pub is_group : IsGroup table day number part.pass part.balances.items

-- the four of these numbers
pub record AreParts (table : TableId) (day : Day) (a b c d : ℕ) (four : Four) : Type 0 where
  pub a_is : IsPart table day a four.a
  pub b_is : IsPart table day b four.b
  pub c_is : IsPart table day c four.c
  pub d_is : IsPart table day d four.d

-- an empty floor, its teller, eight groups, what the end of a round is made on and a first pass, all of one table and one day
pub record ArePartsOf (day : Day) (p : Parts) : Type 0 where
  pub table_day : p.table.day ≡ day
  pub floor_is : p.floor.journal.history ≡ []
  pub opened : IsFor day p.floor
  pub teller_is : p.teller ≡ record { table = p.table.table; day = day; lines = [] }
  pub first_is : p.first ≡ record { table = p.table.table; day = day; lines = []; lane = 0 }
  pub low : AreParts p.table.table day 0 1 2 3 p.low
  pub high : AreParts p.table.table day 4 5 6 7 p.high
  pub till_unseen : p.till_pass.lines ≡ []
  pub till_count : length p.till ≡ length day.accounts
  pub till_is : IsRoundTill p.table.table day p.till_pass p.till

abbrev pub kit_of : Inside → TableOf
kit_of k = record { table = k.parts.table.table; day = k.setting.day }

abbrev pub IsKit : Inside → Type 0
IsKit k = ArePartsOf k.setting.day k.parts
