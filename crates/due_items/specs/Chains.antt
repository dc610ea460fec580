-- Messages of one key, each with the one before it: of an end of an information period, of an earliest time, of a
-- settlement end, or of a system.
use Rattle.std.specs.Prelude.{ℕ, zero, suc, ◌-◌, ◌≤◌, Bool, false, not, ◌||◌, List, [], map, Option, None, Some, if◌then◌else◌, length, nat_eq, slice_index_or, slice_set, unwrap_or}
use Rattle.std.specs.List.{range_with_len}
use Rattle.std.specs.Option.{option_map_or}
use Rattle.batch_records.specs.DayRecord.{Day}
use Rattle.batch_records.specs.declared.day.Body.{Body}
use Rattle.batch_records.specs.declared.day.Body.TheVariants as bodies
use Rattle.machine.specs.Words.{some_passes}
use Rattle.machine.specs.Records.Setup.{system_named}
use Rattle.machine.specs.Records.Messages.{earliest, info_end, is_c, message_at, sort_of, stated_end}
use Rattle.due_items.specs.declared.chain.Key.{Key}
use Rattle.due_items.specs.declared.chain.Key.TheVariants as keys

-- ---- keys

-- the number of the system that sent message n; 0 where none did
abbrev pub system_of : Day → ℕ → ℕ
system_of day n = option_map_or (λ m. unwrap_or (system_named day m.sender) 0) (message_at day n) 0

abbrev pub ends_cycles : Body → Bool
ends_cycles (bodies.Cycle start) = not start
ends_cycles _ = false

-- message n ends a cycle
abbrev pub is_cycle_end : Day → ℕ → Bool
is_cycle_end day n = some_passes (λ m. ends_cycles m.body) (message_at day n)

-- the end of the information period, the earliest time or the settlement end that a batch states; the system of a batch of C, or of
-- the end of a cycle
abbrev pub key_of : Key → Day → ℕ → Option ℕ
key_of keys.Info day n = info_end day n
key_of keys.From day n = earliest day n
key_of keys.Till day n = stated_end day n
key_of keys.Cycle day n = if is_c (sort_of day n) || is_cycle_end day n then Some (system_of day n) else None

abbrev pub has_key : Key → Day → ℕ → ℕ → Bool
has_key key day t n = some_passes (nat_eq t) (key_of key day n)

-- ---- chains

-- the last number from 1 to n that passes, or 0
unfoldable pub last_of : (ℕ → Bool) → ℕ → ℕ
last_of test zero = 0
last_of test (suc n) = if test (suc n) then suc n else last_of test n

pub record Chain : Type 0 where
  -- by second, or by system: the last message that has this key, or 0
  pub newest : List ℕ
  -- by message: the last one before it that has its key, or 0
  pub older : List ℕ
  -- for how many more messages there is room
  pub room : ℕ

-- of the messages from 1 to n
abbrev pub newest_of : Key → Day → ℕ → List ℕ
newest_of key day n = map (λ t. last_of (has_key key day t) n) (range_with_len 0 86401)

abbrev pub older_at : Key → Day → ℕ → ℕ
older_at key day n = option_map_or (λ t. slice_index_or (newest_of key day (n - 1)) t 0) (key_of key day n) 0

-- of no message
abbrev pub no_chain : ℕ → Chain
no_chain room = record { newest = map (λ i. zero) (range_with_len 0 86401); older = []; room = room }

-- of the messages from 1 to n, with this much room
abbrev pub chain_upto : Key → Day → ℕ → ℕ → Chain
chain_upto key day n room = record { newest = newest_of key day n; older = map (older_at key day) (range_with_len 1 n); room = room }

abbrev pub chain_of : Key → Day → ℕ → Chain
chain_of key day room = chain_upto key day (length day.messages) room

-- message n is entered under its key
abbrev pub entered : Option ℕ → ℕ → List ℕ → List ℕ
entered None n newest = newest
entered (Some t) n newest = slice_set newest t n

-- each one is before its message, which has a number one above its place, and the newest are among the messages
pub record PointsDown (newest older : List ℕ) : Type 0 where
  pub down : (i : ℕ) → slice_index_or older i 0 ≤ i
  pub within : (t : ℕ) → slice_index_or newest t 0 ≤ length older
