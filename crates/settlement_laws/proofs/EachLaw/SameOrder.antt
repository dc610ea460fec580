-- The version of a day, and the room that it has for more, change nothing of its written order: each step of it is a line of the day.
use Rattle.std.proofs.Common.{◌≡◌, ◌∙◌, ℕ, suc, [], length, sym}
use Rattle.std.specs.Prelude.{nat_eq}
use Rattle.batch_records.specs.DayRecord.{Day, Room}
use Rattle.batch_records.specs.Meets.{in_version, migrated}
use Rattle.batch_records.specs.Rooms.{in_room}
use Rattle.commit_journal.specs.declared.line.Want.{Want}
use Rattle.commit_journal.specs.declared.line.Want.TheVariants as wants
use Rattle.commit_journal.specs.Line.{History}
use Rattle.machine.specs.Records.Messages.{entries}
use Rattle.machine.specs.Telling.History.{is_ended}
use Rattle.machine.specs.Telling.Facts.{round}
use Rattle.machine.specs.Orders.Bounds.{left}
use Rattle.machine.specs.Orders.Order.{with_line, append, one_scan, until, take_all, item_step, items_step, scan, empty_all, quiet, time_want, lap, is_past, to_round, to_end, plain}
use Rattle.settlement_laws.proofs.EachLaw.SameVersion.{stated_alone, item_want_same, line_same}

append_same : (day : Day) (J : History) (w : Want) → append (stated_alone day) J w ≡ append day J w
unfolding append
append_same day J w = λ i. with_line (line_same day J w i) J

-- ---- passes

take_same : (day : Day) (J : History) → take_all (stated_alone day) J ≡ take_all day J
unfolding take_all
take_same day J = λ i. one_scan (λ K n. append_same day K (wants.In (suc n)) i) J (length day.messages)

step_same : (day : Day) (n : ℕ) (J : History) (k : ℕ) → item_step (stated_alone day) n J k ≡ item_step day n J k
step_same day n J k = λ i. append_same day J (item_want_same day J n k i) i

items_same : (day : Day) (J : History) (n : ℕ) → items_step (stated_alone day) J n ≡ items_step day J n
items_same day J n = λ i. one_scan (λ K k. step_same day (suc n) K k i) J (suc (length (entries day (suc n))))

scan_same : (day : Day) (J : History) → scan (stated_alone day) J ≡ scan day J
unfolding scan
scan_same day J = λ i. one_scan (λ K n. items_same day K n i) J (length day.messages)

empty_same : (day : Day) (J : History) → empty_all (stated_alone day) J ≡ empty_all day J
unfolding empty_all
empty_same day J = λ i. one_scan (λ K a. append_same day K (wants.Sweep (suc a)) i) J (length day.accounts)

-- ---- runs

quiet_same : (day : Day) (J : History) → quiet (stated_alone day) J ≡ quiet day J
unfolding quiet
quiet_same day J = λ i. until (λ K. nat_eq (length (scan_same day K i)) (length K)) (λ K. scan_same day K i) (left day J) J

lap_same : (day : Day) (J : History) → lap (stated_alone day) J ≡ lap day J
unfolding lap
lap_same day J = λ i.
    append_same day (empty_same day (quiet_same day (take_same day J i) i) i) (time_want (empty_same day (quiet_same day (take_same day J i) i) i)) i

to_round_same : (day : Day) (J : History) → to_round (stated_alone day) J ≡ to_round day J
unfolding to_round
to_round_same day J = λ i. until (is_past day (round day J)) (λ K. lap_same day K i) (left day J) J

to_end_same : (day : Day) (J : History) → to_end (stated_alone day) J ≡ to_end day J
unfolding to_end
to_end_same day J = λ i. until is_ended (λ K. to_round_same day K i) (left day J) J

plain_same : (day : Day) → plain (stated_alone day) ≡ plain day
unfolding plain
plain_same day = to_end_same day []

-- ---- two days that state the same

pub plain_in_any : (version : ℕ) (day : Day) → plain (in_version version day) ≡ plain day
plain_in_any version day = sym (plain_same (in_version version day)) ∙ plain_same day

pub plain_migrated : (day : Day) → plain (migrated day) ≡ plain day
plain_migrated day = plain_in_any (migrated day).version day

pub plain_in_room : (room : Room) (day : Day) → plain (in_room room day) ≡ plain day
plain_in_room room day = sym (plain_same (in_room room day)) ∙ plain_same day
