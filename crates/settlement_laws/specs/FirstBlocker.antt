-- Which item blocks another first: of those that block it, the foremost.
use Rattle.std.specs.Prelude.{ℕ, ◌≡◌, ◌⊎◌, true, false, Some, is_some, IsSome}
use Rattle.batch_records.specs.DayRecord.{Day}
use Rattle.commit_journal.specs.Line.{History}
use Rattle.machine.specs.declared.answers.Item.{Item}
use Rattle.machine.specs.Stages.Pending.{standing, is_ahead, is_blocker, is_blocked}
use Rattle.machine.specs.Stages.Blockers.{first_blocker}

-- y is ahead of z, by priority and then by place, and z is not ahead of y
abbrev pub IsAheadOf : Day → History → Item → Item → Type 0
IsAheadOf day J y z = (is_ahead (standing day J y) (standing day J z) ≡ true) × (is_ahead (standing day J z) (standing day J y) ≡ false)

-- y is pending on the account and stands before x, and y is ahead of each other item of which that is so
abbrev pub IsForemost : Day → History → Item → ℕ → Item → Type 0
IsForemost day J x a y =
    (is_blocker day J x a y ≡ true)
    × ((z : Item) → is_blocker day J x a z ≡ true → (z ≡ y) ⊎ IsAheadOf day J y z)

-- the answer is the foremost; there is one where some item is pending on the account and stands before x; and exactly where x is blocked
abbrev pub BlockerIsTheForemost : Day → History → Item → ℕ → Type 0
BlockerIsTheForemost day J x a =
    ((y : Item) → first_blocker day J x a ≡ Some y → IsForemost day J x a y)
    × ((y : Item) → is_blocker day J x a y ≡ true → IsSome (first_blocker day J x a))
    × (is_some (first_blocker day J x a) ≡ is_blocked day J x a)
