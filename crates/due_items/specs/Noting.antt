-- Which items a line may make due, or no longer due, by its head.
use Rattle.std.specs.Prelude.{◌≡◌, ℕ, ◌-◌, Bool, true, false, ◌&&◌, ◌||◌, List, count_by, nat_eq, nat_lt, if◌then◌else◌}
use Rattle.batch_records.specs.DayRecord.{Day}
use Rattle.batch_records.specs.declared.day.Body.{Body}
use Rattle.batch_records.specs.declared.day.Body.TheVariants as bodies
use Rattle.commit_journal.specs.declared.line.Head.{Head}
use Rattle.commit_journal.specs.Line.{History}
use Rattle.machine.specs.Words.{same_name, some_passes}
use Rattle.machine.specs.Records.Messages.{is_a, is_debit, item_numbers, message_at, names_batch, sender, sort_of}
use Rattle.machine.specs.Telling.History.{is_accepted, is_book, is_time}
use Rattle.scan_laws.specs.Concerns.{is_due}
use Rattle.day_facts.specs.Left.{owes}
use Rattle.due_items.specs.declared.chain.Key.TheVariants as keys
use Rattle.due_items.specs.Chains.{has_key, is_cycle_end, last_of, system_of}
pub use Rattle.day_facts.specs.Told.{is_taken_well}

-- ---- a Book line of item (n, k)

-- entry k is a debit of a batch of A of which no debit is left after the lines K
abbrev pub frees : Day → History → ℕ → ℕ → Bool
frees day K n k = is_a (sort_of day n) && is_debit day n k && nat_eq (count_by (owes day K n) (item_numbers day n)) 0

-- the item, and where it frees the credits all items of the message
abbrev pub is_booked_by : Day → History → ℕ → ℕ → ℕ → ℕ → Bool
is_booked_by day K n k m j = nat_eq n m && (nat_eq k j || frees day K n k)

abbrev pub IsBooked : Day → History → ℕ → ℕ → ℕ → ℕ → Type 0
IsBooked day K n k m j = is_booked_by day K n k m j ≡ true

-- ---- a Time line

-- the items of the messages of which its time is an end
abbrev pub IsEnding : Day → ℕ → ℕ → ℕ → Type 0
IsEnding day time m j = is_due day time m ≡ true

-- ---- a line that takes message n with code OK

abbrev pub answers : Day → ℕ → List ℕ → Body → Bool
answers day m from (bodies.Confirm id answer) = names_batch day from id m
answers day m from _ = false

-- message n is an answer on batch m
abbrev pub is_answer_on : Day → ℕ → ℕ → Bool
is_answer_on day n m = some_passes (λ x. answers day m x.sender x.body) (message_at day n)

abbrev pub IsAnswered : Day → ℕ → ℕ → ℕ → Type 0
IsAnswered day n m j = is_answer_on day n m ≡ true

-- message e, of the sender of message n, ends a cycle, and the lines K accept it
abbrev pub is_end_before : Day → History → ℕ → ℕ → Bool
is_end_before day K n e = same_name (sender day e) (sender day n) && (is_cycle_end day e && is_accepted K e)

-- m is a message of the cycle that message n ends: it comes before n, and after the last accepted end before n
abbrev pub is_of_cycle : Day → History → ℕ → ℕ → Bool
is_of_cycle day K n m = has_key keys.Cycle day (system_of day n) m && (nat_lt m n && nat_lt (last_of (is_end_before day K n) (n - 1)) m)

abbrev pub ends_cycle_of : Day → History → ℕ → ℕ → Bool
ends_cycle_of day K n m = is_cycle_end day n && is_of_cycle day K n m

abbrev pub IsCycled : Day → History → ℕ → ℕ → ℕ → Type 0
IsCycled day K n m j = ends_cycle_of day K n m ≡ true

abbrev pub IsTold : Day → History → ℕ → ℕ → ℕ → Type 0
IsTold day K n m j = (is_answer_on day n m || ends_cycle_of day K n m) ≡ true

-- ---- any other line

abbrev pub is_about_by : Day → History → Head → ℕ → Bool
is_about_by day K head m = nat_eq head.msg m || is_taken_well head && (is_answer_on day head.msg m || ends_cycle_of day K head.msg m)

abbrev pub IsAbout : Day → History → Head → ℕ → ℕ → Type 0
IsAbout day K head m j = is_about_by day K head m ≡ true

-- ---- by the kind of the line

abbrev pub IsMet : Day → History → Head → ℕ → ℕ → Type 0
IsMet day K head m j =
    (if is_book head.kind then is_booked_by day K head.msg head.entry m j
    else if is_time head.kind then is_due day head.entry m
    else is_about_by day K head m) ≡ true
