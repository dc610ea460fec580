-- Where nothing is found out yet, with room for what is to come.
use Rattle.std.specs.Prelude.{ℕ, ◌≡◌, ◌*◌, []}
use Rattle.rule_book.specs.Owed.{Debts}
use Rattle.rule_book.specs.Parties.{PartyRoom}
use Rattle.rule_book.specs.Room.{FoundHasRoom}
use Rattle.rule_book.specs.Settings.{IsNothing}
use Rattle.rule_book.specs.declared.found.Found.{Found}

pub record HasNothing (found : Found) (debts : Debts) (parties : PartyRoom) (accounts messages entries : ℕ) : Type 0 where
  pub nothing : IsNothing found
  pub found_room : FoundHasRoom messages entries found
  pub debts_room : debts ≡ record { keys = []; sums = []; most = entries }
  pub parties_room : parties ≡ record { accounts = accounts; most = 2 * entries }
