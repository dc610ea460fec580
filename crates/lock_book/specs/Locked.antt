-- The groups that a step has locked, and what is held on their accounts.
use Rattle.std.specs.Prelude.{◌≡◌, ℕ, ◌%◌, ◌&&◌, Bool, nat_lt, nat_le, List, [], ◌∷◌, length, slice_index_or, Option, Some, None}
use Rattle.std.specs.declared.sync.MutexGuard.{MutexGuard}
use Rattle.std.specs.Sync.Mutex.{mutex_guard_value}
use Rattle.batch_records.specs.DayRecord.{Day}
use Rattle.commit_journal.specs.Line.{History}
use Rattle.machine.specs.Telling.Balances.{balance}
use Rattle.machine.specs.Words.{when}

-- whether the day has an account of this number
abbrev pub is_account : Day → ℕ → Bool
is_account day a = nat_lt 0 a && nat_le a (length day.accounts)

-- the guard of a group's lock, which stands for the lines that the group has seen; none where it isn't locked
abbrev pub Lock : Type 0
Lock = Option (MutexGuard History)

-- what is held on an account whose group has this lock
abbrev pub held_by : Day → Lock → ℕ → Option ℕ
held_by day None a = None
held_by day (Some g) a = when (is_account day a) (balance day (mutex_guard_value g) a)

-- the same by the locks of all groups, in the order of their numbers
abbrev pub holdings_of : Day → List Lock → ℕ → Option ℕ
holdings_of day locks a = held_by day (slice_index_or locks (a % 8) None) a

-- a group that is locked has seen this history
abbrev pub HasSeen : Lock → History → Type 0
HasSeen None J = Unit {0}
HasSeen (Some g) J = mutex_guard_value g ≡ J

abbrev pub AllSeen : List Lock → History → Type 0
AllSeen [] J = Unit {0}
AllSeen (l ∷ ls) J = HasSeen l J × AllSeen ls J
