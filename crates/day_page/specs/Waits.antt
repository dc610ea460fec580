-- What waits over the clock, by priority.
use Rattle.std.specs.Prelude.{ℕ, ◌+◌, ◌*◌, ◌^◌, Bool, if◌then◌else◌, List, map, sum_by, nat_eq, nat_lt}
use Rattle.std.specs.Option.{option_map, option_map_or}
use Rattle.cash_amounts.specs.declared.limits.TheConstants.{MAX_ENTRIES}
use Rattle.batch_records.specs.DayRecord.{Day}
use Rattle.commit_journal.specs.declared.line.Move.{Move}
use Rattle.commit_journal.specs.Line.{History}
use Rattle.machine.specs.declared.answers.Item.{Item}
use Rattle.machine.specs.Telling.History.{clock}
use Rattle.machine.specs.Records.Messages.{is_b, is_debit, item_numbers, message_numbers, move_of, part, sort_of}
use Rattle.machine.specs.Stages.Pending.{is_pending, item, priority_as}
use Rattle.day_page.specs.declared.words.Request.{Request}
use Rattle.day_page.specs.declared.waits.Queue.{Queue}
use Rattle.day_page.specs.declared.waits.Waiting.{Waiting}
use Rattle.day_page.specs.Parties.{owns_account}
use Rattle.day_page.specs.Stops.{stops}

-- ---- what waits of message n

-- what a move takes from the accounts of the party
abbrev pub taken_by : Day → Request → Move → ℕ
taken_by day r m = if owns_account day r m.debit then m.amount else 0

abbrev pub part_cents : Day → Request → ℕ → ℕ → ℕ
part_cents day r n k = option_map_or (taken_by day r) (option_map (move_of day) (part day n k)) 0

-- a batch of B is one item, with number 0, which takes what all its debit entries take
abbrev pub item_of : Day → ℕ → ℕ → Item
item_of day n k = if is_b (sort_of day n) then item n 0 else item n k

abbrev pub entry_cents : Day → Request → ℕ → ℕ → ℕ
entry_cents day r n k = if is_b (sort_of day n) then (if is_debit day n k then part_cents day r n k else 0) else part_cents day r n k

-- what entry k, or with 0 a payment, takes from the accounts of the party once it is booked, where it waits
abbrev pub waits : Day → Request → History → ℕ → ℕ → ℕ
waits day r J n k = if is_pending day J (item_of day n k) then entry_cents day r n k else 0

unfoldable pub cents_of : Day → Request → History → ℕ → ℕ
cents_of day r J n = sum_by (waits day r J n) (item_numbers day n)

-- how many items of message n wait on accounts of the party
abbrev pub one_if : ℕ → ℕ
one_if cents = if nat_lt 0 cents then 1 else 0

unfoldable pub parts_of : Day → Request → History → ℕ → ℕ
parts_of day r J n = sum_by (λ k. one_if (waits day r J n k)) (item_numbers day n)

abbrev pub count_of : Day → Request → History → ℕ → ℕ
count_of day r J n = if is_b (sort_of day n) then one_if (cents_of day r J n) else parts_of day r J n

-- what the items of a message can take at most
abbrev pub most_taken : ℕ
most_taken = 10 ^ 18 * (MAX_ENTRIES + 1)

-- ---- of all messages of a priority

-- 0 is urgent, 1 is high, 2 is normal
abbrev pub has_priority : Day → ℕ → ℕ → Bool
has_priority day p n = nat_eq (priority_as (sort_of day n) day n) p

abbrev pub cents_at : Day → Request → History → ℕ → ℕ → ℕ
cents_at day r J p n = if has_priority day p n then cents_of day r J n else 0

abbrev pub count_at : Day → Request → History → ℕ → ℕ → ℕ
count_at day r J p n = if has_priority day p n then count_of day r J n else 0

-- what they take once they are booked
abbrev pub waiting_cents : Day → Request → History → ℕ → ℕ
waiting_cents day r J p = sum_by (cents_at day r J p) (message_numbers day)

unfoldable pub queue : Day → Request → History → ℕ → Queue
queue day r J p = record { count = sum_by (count_at day r J p) (message_numbers day); cents = waiting_cents day r J p }

abbrev pub waiting : Day → Request → History → Waiting
waiting day r J = record { clock = clock J; urgent = queue day r J 0; high = queue day r J 1; normal = queue day r J 2 }

-- at each stop
abbrev pub all_waiting : Day → Request → History → List Waiting
all_waiting day r J = map (waiting day r) (stops J)
