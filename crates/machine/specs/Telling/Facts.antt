-- What a history tells together with the day: rounds, accepted answers and objections, cycles.
use Rattle.std.specs.Prelude.{ℕ, suc, Bool, true, false, not, ◌&&◌, ◌||◌, if◌then◌else◌, List, [], ◌∷◌, Option, Some, None, nat_lt, nat_le, length, count_by, is_some, is_none}
use Rattle.std.specs.List.{find}
use Rattle.batch_records.specs.DayRecord.{Day}
use Rattle.batch_records.specs.declared.day.Body.{Body}
use Rattle.batch_records.specs.declared.day.Body.TheVariants as bodies
use Rattle.batch_records.specs.declared.day.Message.{Message}
use Rattle.batch_records.specs.declared.day.Entry.{Entry}
use Rattle.commit_journal.specs.Line.{Line, History}
use Rattle.machine.specs.Words.{when, some_passes, same_name}
use Rattle.machine.specs.Records.Setup.{owns}
use Rattle.machine.specs.Records.Messages.{Sort, BatchA, BatchB, BatchE, sort_of, sender, round_of, message_at, message_numbers, entry_at, names_batch}
use Rattle.machine.specs.Telling.History.{is_in, is_ok, is_in_of, place_of, read_first, taken, is_accepted, clock}

-- ---- rounds

-- how many stated stops the clock has reached
abbrev pub round : Day → History → ℕ
round day J = count_by (λ stop. nat_le stop (clock J)) day.stops

abbrev pub is_reached : Day → History → ℕ → Bool
is_reached day J n = nat_le (round_of day n) (round day J)

-- the least message before n of n's sender that isn't taken
abbrev pub untaken_earlier : Day → History → ℕ → Option ℕ
untaken_earlier day J n = find (λ i. nat_lt i n && same_name (sender day i) (sender day n) && is_none (taken J i)) (message_numbers day)

-- the least untaken message of the rounds reached
abbrev pub untaken_reached : Day → History → Option ℕ
untaken_reached day J = find (λ i. is_reached day J i && is_none (taken J i)) (message_numbers day)

-- ---- accepted messages on a batch

-- the line takes a message with code OK
abbrev pub takes_well : Line → Bool
takes_well l = is_in l.head.kind && is_ok l.head.code

-- the accepted batch that is named by its system and its identification
abbrev pub accepted_batch : Day → History → List ℕ → List ℕ → Option ℕ
accepted_batch day J system id = find (λ n. names_batch day system id n && is_accepted J n) (message_numbers day)

-- the answer on batch n that a message of this sender gives
abbrev pub answer_in : Day → ℕ → List ℕ → Body → Option Bool
answer_in day n from (bodies.Confirm id answer) = when (names_batch day from id n) answer
answer_in day n from _ = None

abbrev pub answer_of_message : Day → ℕ → Option Message → Option Bool
answer_of_message day n None = None
answer_of_message day n (Some m) = answer_in day n m.sender m.body

-- the answer on batch n that the line takes
abbrev pub answer_taken : Day → ℕ → Line → Option Bool
answer_taken day n l = if takes_well l then answer_of_message day n (message_at day l.head.msg) else None

-- the place of the accepted answer on batch n, and the answer: whether it is Y
abbrev pub answered : Day → History → ℕ → Option ℕ
answered day J n = place_of (λ l. is_some (answer_taken day n l)) J

abbrev pub answer : Day → History → ℕ → Option Bool
answer day J n = read_first (answer_taken day n) J

-- whether the bank owns an account of the entry
abbrev pub is_party : Day → List ℕ → Entry → Bool
is_party day bank e = owns day bank e.debit || owns day bank e.credit

-- an objection of this sender revokes the whole of an A or B batch, and of an E batch the entries of which it is a party
abbrev pub objects : Day → Sort → ℕ → ℕ → List ℕ → Bool
objects day BatchA n k bank = true
objects day BatchB n k bank = true
objects day BatchE n k bank = some_passes (is_party day bank) (entry_at day n k)
objects day _ n k bank = false

abbrev pub objection_in : Day → ℕ → ℕ → List ℕ → Body → Bool
objection_in day n k from (bodies.Object system id) = names_batch day system id n && objects day (sort_of day n) n k from
objection_in day n k from _ = false

-- the line takes an objection that revokes (n, k)
abbrev pub revokes : Day → ℕ → ℕ → Line → Bool
revokes day n k l = takes_well l && some_passes (λ m. objection_in day n k m.sender m.body) (message_at day l.head.msg)

-- the In line of the first accepted objection that revokes (n, k); of an A or B batch any k will do
abbrev pub revoked : Day → History → ℕ → ℕ → Option ℕ
revoked day J n k = place_of (revokes day n k) J

-- ---- cycles

-- whether the message, of this sender, starts a cycle of the system, or ends one
abbrev pub cycle_in : List ℕ → List ℕ → Body → Option Bool
cycle_in system from (bodies.Cycle start) = when (same_name from system) start
cycle_in system from _ = None

abbrev pub cycle_of_message : List ℕ → Option Message → Option Bool
cycle_of_message system None = None
cycle_of_message system (Some m) = cycle_in system m.sender m.body

abbrev pub cycle_taken : Day → List ℕ → Line → Option Bool
cycle_taken day system l = if takes_well l then cycle_of_message system (message_at day l.head.msg) else None

-- the START line of the open cycle of a system: its last accepted cycle message is START
unfoldable pub open_cycle : Day → List ℕ → History → Option ℕ
open_cycle day system [] = None
open_cycle day system (l ∷ J) = cycle_after (cycle_taken day system l) (suc (length J)) (open_cycle day system J)
  where
    cycle_after : Option Bool → ℕ → Option ℕ → Option ℕ
    cycle_after None place before = before
    cycle_after (Some true) place before = Some place
    cycle_after (Some false) place before = None

-- the system has ended a cycle since n was taken
unfoldable pub cycle_ended : Day → ℕ → History → Bool
cycle_ended day n [] = false
cycle_ended day n (l ∷ J) =
    if is_in_of n l then false else (some_passes not (cycle_taken day (sender day n) l) || cycle_ended day n J)
