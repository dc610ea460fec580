-- The batches of C whose cycle lasts, as they are kept: a set of numbers, of which those of a system stand in a block of their own.
use Rattle.std.specs.Prelude.{◌≡◌, ℕ, ◌+◌, ◌-◌, ◌*◌, ◌^◌, ◌<◌, ◌≤◌, min, Bool, true, false, ◌&&◌, if◌then◌else◌, List, length, nat_lt, replicate, slice_set, unwrap_or}
use Rattle.std.specs.Option.{option_map_or}
use Rattle.cash_amounts.specs.declared.limits.TheConstants.{MAX_MESSAGES}
use Rattle.batch_records.specs.DayRecord.{Day}
use Rattle.commit_journal.specs.declared.line.Head.{Head}
use Rattle.commit_journal.specs.Line.{History}
use Rattle.machine.specs.Records.Setup.{system_named}
use Rattle.machine.specs.Records.Messages.{is_c, message_at, sort_of}
use Rattle.machine.specs.Telling.History.{is_accepted, is_in, is_ok}
use Rattle.machine.specs.Telling.Facts.{cycle_ended}
use Rattle.number_set.specs.Members.{has}

-- the number of the system that sent message n; 0 where none did
abbrev pub system_of : Day → ℕ → ℕ
system_of day n = option_map_or (λ m. unwrap_or (system_named day m.sender) 0) (message_at day n) 0

-- the set, and how many numbers each block has: more than the day has messages
pub record Batches : Type 0 where
  pub set : List Bool
  pub size : ℕ

-- where the block of the system that sent message n begins
abbrev pub block : ℕ → Day → ℕ → ℕ
block size day n = size * system_of day n

abbrev pub index_of : ℕ → Day → ℕ → ℕ
index_of size day n = min (block size day n + n) (2 ^ 32 - 1)

-- with number i a member or not, where there is room for it
abbrev pub taken_off : ℕ → Bool → List Bool → List Bool
taken_off i flag set = if nat_lt i (length set) then slice_set set i flag else set

-- no batches, of a day of so many systems, in blocks of this size
abbrev pub no_batches : ℕ → ℕ → Batches
no_batches systems size = record { set = replicate (size * (systems + 1)) false; size = size }

-- with the batch of C that the line accepts
abbrev pub with_batch : Day → Head → Batches → Batches
with_batch day head b = record { set = if is_in head.kind && is_ok head.code && is_c (sort_of day head.msg) then taken_off (index_of b.size day head.msg) true b.set else b.set; size = b.size }

-- there is room for all, and each accepted batch of C whose cycle hasn't ended is a member
pub record AreBatches (day : Day) (J : History) (b : Batches) : Type 0 where
  pub all : b.size * (length day.systems + 1) ≤ length b.set
  pub room : length day.messages + 1 ≤ b.size
  pub few : b.size ≤ MAX_MESSAGES + 1
  pub each : (n : ℕ) → n ≤ length day.messages → is_c (sort_of day n) ≡ true → is_accepted J n ≡ true → cycle_ended day n J ≡ false → has b.set (block b.size day n + n) ≡ true

-- number i is that of a message of the block whose cycle has ended
pub record IsEnded (day : Day) (J : History) (size first i : ℕ) : Type 0 where
  pub low : first ≤ i
  pub high : i < first + size
  pub ended : cycle_ended day (i - first) J ≡ true

-- of the block those left whose cycle has ended, and no others
pub record AreLeftIn (day : Day) (J : History) (size first : ℕ) (old new : List Bool) : Type 0 where
  pub all : length new ≡ length old
  pub each : (i : ℕ) → has old i ≡ true → has new i ≡ false → IsEnded day J size first i

pub record AreLeft (day : Day) (J : History) (m : ℕ) (old new : Batches) : Type 0 where
  pub same : new.size ≡ old.size
  pub left : AreLeftIn day J old.size (block old.size day m) old.set new.set
