-- Which messages a line may change, and what stays as it is of all others.
use Rattle.std.specs.Prelude.{◌≡◌, ℕ, Bool, false, ◌&&◌, ◌||◌, not, if◌then◌else◌, nat_eq, is_some}
use Rattle.period_calendar.specs.declared.time.TheConstants.{MIDNIGHT}
use Rattle.batch_records.specs.DayRecord.{Day}
use Rattle.batch_records.specs.declared.day.Body.{Body}
use Rattle.batch_records.specs.declared.day.Body.TheVariants as bodies
use Rattle.commit_journal.specs.Line.{Line, History}
use Rattle.machine.specs.Words.{some_passes}
use Rattle.machine.specs.Records.Messages.{Sort, Pay, BatchA, BatchB, BatchC, BatchE, sort_of, sender, message_at, is_c, info_end, earliest, settlement_end, names_batch}
use Rattle.machine.specs.Telling.History.{is_time, taken, taken_code, is_accepted, booked, settled_whole, asked, covered, closed}
use Rattle.machine.specs.Telling.Facts.{takes_well, answer_taken, answered, answer, revoked, cycle_taken, cycle_ended}

-- ---- lines other than Time

abbrev pub object_names : Day → ℕ → Body → Bool
object_names day n (bodies.Object system id) = names_batch day system id n
object_names day n _ = false

-- the line accepts an objection that names n
abbrev pub accepts_objection : Day → Line → ℕ → Bool
accepts_objection day l n = takes_well l && some_passes (λ m. object_names day n m.body) (message_at day l.head.msg)

-- the line accepts an answer that names n
abbrev pub accepts_answer : Day → Line → ℕ → Bool
accepts_answer day l n = is_some (answer_taken day n l)

-- the line accepts the end of a cycle, and n is an accepted batch of C of that system that no cycle's end has met before
abbrev pub ends_cycle : Day → History → Line → ℕ → Bool
ends_cycle day J l n = is_c (sort_of day n) && some_passes not (cycle_taken day (sender day n) l) && is_accepted J n && not (cycle_ended day n J)

-- the message of the line, the batch that it accepts an objection to or an answer on, and the batches of C of which it ends the cycle
abbrev pub is_about : Day → History → Line → ℕ → Bool
is_about day J l n = nat_eq l.head.msg n || accepts_objection day l n || accepts_answer day l n || ends_cycle day J l n

-- ---- Time lines

-- the ends of a message of this sort: an A or B batch that asks at midnight is refused
abbrev pub ends_as : Sort → Day → ℕ → (ℕ → Bool) → Bool
ends_as BatchA day n test = test (settlement_end day n) || test MIDNIGHT
ends_as BatchB day n test = test (settlement_end day n) || test MIDNIGHT
ends_as BatchE day n test = test (settlement_end day n)
ends_as BatchC day n test = test MIDNIGHT
ends_as Pay day n test = test MIDNIGHT
ends_as _ day n test = false

-- the time is the information end of n, its earliest time, or an end of its sort
abbrev pub is_due : Day → ℕ → ℕ → Bool
is_due day time n = some_passes (nat_eq time) (info_end day n) || some_passes (nat_eq time) (earliest day n) || ends_as (sort_of day n) day n (nat_eq time)

-- ---- all lines

-- the line may change message n. A Time line goes past no end of an accepted message, so only those change of which its time is an end
abbrev pub concerns : Day → History → Line → ℕ → Bool
concerns day J l n = if is_time l.head.kind then is_accepted J n && is_due day l.head.entry n else is_about day J l n

-- ---- what is the same of a message

-- what K tells of its lines J tells too
pub record SameFacts (day : Day) (K J : History) (n : ℕ) : Type 0 where
  pub same_taken : taken K n ≡ taken J n
  pub same_code : taken_code K n ≡ taken_code J n
  pub same_booked : (k : ℕ) → booked K n k ≡ booked J n k
  pub same_whole : settled_whole K n ≡ settled_whole J n
  pub same_asked : asked K n ≡ asked J n
  pub same_covered : covered K n ≡ covered J n
  pub same_closed : closed K n ≡ closed J n
  pub same_answered : answered day K n ≡ answered day J n
  pub same_answer : answer day K n ≡ answer day J n
  pub same_revoked : (k : ℕ) → revoked day K n k ≡ revoked day J n k
  pub same_cycle : (is_c (sort_of day n) && is_accepted J n && cycle_ended day n K) ≡ (is_c (sort_of day n) && is_accepted J n && cycle_ended day n J)
