-- Repeats, said of two messages and not by a search; and the first of a name, for contracts.
use Rattle.std.specs.Prelude.{ℕ, ◌≡◌, ◌<◌, ◌≤◌, Option, None, Some, nat_lt, if◌then◌else◌}
use Rattle.batch_records.specs.DayRecord.{Day}
use Rattle.batch_records.specs.declared.day.Message.{Message}
use Rattle.batch_records.specs.Repeats.{message_at, first_of_name}

-- a number that is below another
abbrev pub if_below : ℕ → Option ℕ → Option ℕ
if_below n None = None
if_below n (Some i) = if nat_lt i n then Some i else None

-- the first message of the file with n's sender and identification, where it stands before n
abbrev pub earlier : Day → ℕ → Option ℕ
earlier day n = if_below n (first_of_name day n)

-- two messages, both there, with one sender and one identification
abbrev pub AreOfOneName : Option Message → Option Message → Type 0
AreOfOneName (Some own) (Some other) = (other.sender ≡ own.sender) × (other.id ≡ own.id)
AreOfOneName _ _ = ⊥

-- message i stands before message n, and has its sender and its identification
abbrev pub IsRepeatOf : Day → ℕ → ℕ → Type 0
IsRepeatOf day n i = AreOfOneName (message_at day n) (message_at day i) × (i < n)

-- and no other such message stands before i
abbrev pub IsRepeatOfFirst : Day → ℕ → ℕ → Type 0
IsRepeatOfFirst day n i = IsRepeatOf day n i × ((j : ℕ) → IsRepeatOf day n j → i ≤ j)
