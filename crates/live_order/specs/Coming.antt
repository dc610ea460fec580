-- What comes in after a day, of a day that may be there further already.
use Rattle.std.specs.Prelude.{ℕ, ◌≡◌, ◌+◌, [], ◌∷◌, List, length}
use Rattle.batch_records.specs.DayRecord.{Day}
use Rattle.batch_records.specs.declared.day.Message.{Message}
use Rattle.commit_journal.specs.Line.{History}
use Rattle.machine.specs.Legal.{IsLegal}
use Rattle.live_order.specs.Longer.{longer}

-- a day of which nothing but its setup has come
abbrev pub setup : Day → Day
setup day = record day { messages = []; stops = [] }

-- Of the whole day, m is the message after those of the day until now, and n its number. What follows may be there already.
pub record ComesNext (whole : Day) (n : ℕ) (day : Day) (m : Message) (ms : List Message) (ss : List ℕ) : Type 0 where
  pub is : whole ≡ longer day (m ∷ ms) ss
  pub number : n ≡ length day.messages + 1

-- the lines are legal for the day, and with m after it; of no lines this is so by itself, and else by `longer_day_keeps_lines`
pub record StaysLegal (day : Day) (m : Message) (J : History) : Type 0 where
  pub before : IsLegal day J
  pub after : IsLegal (longer day (m ∷ []) []) J
