-- The version of a day, and the room that it has for more, change no line: no word of the machine looks at them. What is made of the other parts of a day alone computes
-- to the same; the lemmas here are of the words that take a message's sort, or what it states, apart, and of all that stands on these.
use Rattle.std.proofs.Common.{◌≡◌, ◌∙◌, ℕ, zero, suc, ◌+◌, Bool, true, false, List, [], ◌∷◌, length, Option, Some, None, refl, sym}
use Rattle.std.specs.Prelude.{◌↔◌, ◌&&◌, ◌||◌, not, if◌then◌else◌, nat_eq, nat_le, nat_lt, is_some, is_none, unwrap_or}
use Rattle.std.specs.List.{find, list_all, list_any}
use Rattle.period_calendar.specs.declared.time.TheConstants.{MIDNIGHT}
use Rattle.cash_amounts.specs.declared.records.AccountRecord.{AccountRecord}
use Rattle.cash_amounts.specs.declared.records.Procedure.TheVariants as procedures
use Rattle.batch_records.specs.Meets.{in_version, migrated}
use Rattle.batch_records.specs.declared.day.Body.{Body}
use Rattle.batch_records.specs.declared.day.Body.TheVariants as bodies
use Rattle.batch_records.specs.DayRecord.{Day, Room, no_room}
use Rattle.batch_records.specs.Rooms.{in_room}
use Rattle.batch_records.specs.declared.day.Entry.{Entry}
use Rattle.batch_records.specs.declared.day.Message.{Message}
use Rattle.commit_journal.specs.declared.line.Code.{Code}
use Rattle.commit_journal.specs.declared.line.Code.TheVariants as line_codes
use Rattle.commit_journal.specs.declared.line.Kind.TheVariants as kinds
use Rattle.commit_journal.specs.declared.line.Want.{Want}
use Rattle.commit_journal.specs.declared.line.Want.TheVariants as wants
use Rattle.commit_journal.specs.Line.{Line, History}
use Rattle.machine.specs.declared.answers.Item.{Item}
use Rattle.machine.specs.declared.answers.Phase.{Phase}
use Rattle.machine.specs.declared.answers.Phase.TheVariants as phases
use Rattle.machine.specs.Words.{first_case, first_some, some_passes, when}
use Rattle.machine.specs.Records.Setup.{account_at, account_numbers, is_sub_account, linked}
use Rattle.machine.specs.Records.Messages.{Sort, Pay, BatchA, BatchB, BatchC, BatchD, BatchE, Liquidity, Object, Confirm, Cycle, sort_of, sender, message_at, message_numbers, is_named, is_batch, is_a, is_b, is_a_or_b, is_liquidity, entries, entry_at, entry_numbers, item_numbers, info_end, earliest, settlement_end, settlement_start, is_high, part, transfer, debit_account, is_credit, fund_of, fund_account, first_of_name, is_repeat, names_batch}
use Rattle.machine.specs.Records.Reserves.{kept, must_leave_as}
use Rattle.machine.specs.Telling.History.{is_in_of, place_of, read_first, taken, is_accepted, closed, covered, asked, clock, is_ended}
use Rattle.machine.specs.Telling.Balances.{balance}
use Rattle.machine.specs.Telling.Facts.{takes_well, accepted_batch, answer_in, answer_of_message, answer_taken, answered, answer, objects, is_party, objection_in, revokes, revoked, cycle_taken, open_cycle, cycle_ended}
use Rattle.machine.specs.Stages.Phases.{is_booked, is_no_order, revoked_as, settled_as, open_as, phase, is_open, is_overdue, is_answered, is_asking, is_information}
use Rattle.machine.specs.Stages.Intake.{sender_is_wrong, procedure_is_unused, count_is_wrong, sum_is_wrong, is_not_zero, entry_fits, info_is_wrong, earliest_is_wrong, are_crossed, periods_are_wrong, times_are_wrong, cycle_is_wrong_in, cycle_is_wrong, accounts_are_wrong, is_locked, debit_is_locked, debit_is_short, target_in, target_of_message, target, target_is_missing, phase_is_wrong, is_no_party, intake_code, transfer_moves, moves_as, intake_moves}
use Rattle.machine.specs.Stages.Pending.{item, pending_as, is_pending, debtors, debit_account_of_part, debit_accounts_as, stands_on, priority_as, is_normal, last_debit_booked, opened_at, active_place, standing, is_ahead, stands_before, is_blocker, is_blocked_by, is_blocked}
use Rattle.machine.specs.Making.Lines.{line, in_line, moves_of_part, may_book, book_line, is_short_debtor, may_settle_whole, may_ask, reversal, expiry_code, may_lapse, may_expire, expire_line, need_as, fund_suffices, is_answered_yes, is_answered_no, is_unanswered, cover_moves, may_cover, cover_line, refusal, may_refuse, refuse_line, may_sweep, message_want, item_want, may_item, is_ready_item, is_ready_message, is_ready, next_stop, all_taken, may, made, line_if, line_of}
use Rattle.machine.specs.Legal.{IsLegal, want_of}

-- what a day states, but for its version, and with no room
abbrev pub stated_alone : Day → Day
stated_alone day = record day { version = 2; room = no_room }

-- ---- parts of a message, and what names it

part_same : (day : Day) (n k : ℕ) → part (stated_alone day) n k ≡ part day n k
part_same day n zero = refl
part_same day n (suc k) = refl

abbrev first_named : Day → List ℕ → List ℕ → Option ℕ
first_named day system id = find (λ i. some_passes (is_named system id) (message_at day i)) (message_numbers day)

first_none : (day : Day) (n : ℕ) → message_at day n ≡ None → first_of_name day n ≡ None
first_none day n e = rw e refl

first_is : (day : Day) (n : ℕ) (m : Message) → message_at day n ≡ Some m → first_of_name day n ≡ first_named day m.sender m.id
first_is day n m e = rw e refl

first_same : (day : Day) (n : ℕ) (o : Option Message) → message_at day n ≡ o → first_of_name (stated_alone day) n ≡ first_of_name day n
first_same day n None e = first_none (stated_alone day) n e ∙ sym (first_none day n e)
first_same day n (Some m) e = first_is (stated_alone day) n m e ∙ sym (first_is day n m e)

repeat_same : (day : Day) (n : ℕ) → is_repeat (stated_alone day) n ≡ is_repeat day n
repeat_same day n = λ i. some_passes (λ first. nat_lt first n) (first_same day n (message_at day n) refl i)

named_same : (day : Day) (system id : List ℕ) (n : ℕ) → names_batch (stated_alone day) system id n ≡ names_batch day system id n
named_same day system id n = λ i. is_batch (sort_of day n) && some_passes (is_named system id) (message_at day n) && not (repeat_same day n i)

batch_same : (day : Day) (J : History) (system id : List ℕ) → accepted_batch (stated_alone day) J system id ≡ accepted_batch day J system id
batch_same day J system id = λ i. find (λ n. named_same day system id n i && is_accepted J n) (message_numbers day)

-- ---- answers and objections

answer_in_same : (day : Day) (n : ℕ) (from : List ℕ) (b : Body) → answer_in (stated_alone day) n from b ≡ answer_in day n from b
answer_in_same day n from (bodies.Confirm id answer) = λ i. when (named_same day from id n i) answer
answer_in_same day n from _ = refl

answer_of_same : (day : Day) (n : ℕ) (o : Option Message) → answer_of_message (stated_alone day) n o ≡ answer_of_message day n o
answer_of_same day n None = refl
answer_of_same day n (Some m) = answer_in_same day n m.sender m.body

answer_taken_same : (day : Day) (n : ℕ) (l : Line) → answer_taken (stated_alone day) n l ≡ answer_taken day n l
answer_taken_same day n l = λ i. if takes_well l then answer_of_same day n (message_at day l.head.msg) i else None

answered_same : (day : Day) (J : History) (n : ℕ) → answered (stated_alone day) J n ≡ answered day J n
answered_same day J n = λ i. place_of (λ l. is_some (answer_taken_same day n l i)) J

answer_same : (day : Day) (J : History) (n : ℕ) → answer (stated_alone day) J n ≡ answer day J n
answer_same day J n = λ i. read_first (λ l. answer_taken_same day n l i) J

objects_same : (day : Day) (s : Sort) (n k : ℕ) (bank : List ℕ) → objects (stated_alone day) s n k bank ≡ objects day s n k bank
objects_same day BatchA n k bank = refl
objects_same day BatchB n k bank = refl
objects_same day BatchE n k bank = refl
objects_same day _ n k bank = refl

objection_same : (day : Day) (n k : ℕ) (from : List ℕ) (b : Body) → objection_in (stated_alone day) n k from b ≡ objection_in day n k from b
objection_same day n k from (bodies.Object system id) = λ i. named_same day system id n i && objects_same day (sort_of day n) n k from i
objection_same day n k from _ = refl

revokes_same : (day : Day) (n k : ℕ) (l : Line) → revokes (stated_alone day) n k l ≡ revokes day n k l
revokes_same day n k l = λ i. takes_well l && some_passes (λ m. objection_same day n k m.sender m.body i) (message_at day l.head.msg)

pub revoked_same : (day : Day) (J : History) (n k : ℕ) → revoked (stated_alone day) J n k ≡ revoked day J n k
revoked_same day J n k = λ i. place_of (λ l. revokes_same day n k l i) J

-- ---- cycles

open_kept : (day : Day) (system : List ℕ) (l : Line) (J : History) → cycle_taken day system l ≡ None → open_cycle day system (l ∷ J) ≡ open_cycle day system J
unfolding open_cycle
open_kept day system l J e = rw e refl

open_begun : (day : Day) (system : List ℕ) (l : Line) (J : History) → cycle_taken day system l ≡ Some true → open_cycle day system (l ∷ J) ≡ Some (suc (length J))
unfolding open_cycle
open_begun day system l J e = rw e refl

open_ended : (day : Day) (system : List ℕ) (l : Line) (J : History) → cycle_taken day system l ≡ Some false → open_cycle day system (l ∷ J) ≡ None
unfolding open_cycle
open_ended day system l J e = rw e refl

open_step : (day : Day) (system : List ℕ) (l : Line) (J : History) (o : Option Bool) → cycle_taken day system l ≡ o → open_cycle (stated_alone day) system J ≡ open_cycle day system J → open_cycle (stated_alone day) system (l ∷ J) ≡ open_cycle day system (l ∷ J)
open_step day system l J None e same = open_kept (stated_alone day) system l J e ∙ same ∙ sym (open_kept day system l J e)
open_step day system l J (Some true) e same = open_begun (stated_alone day) system l J e ∙ sym (open_begun day system l J e)
open_step day system l J (Some false) e same = open_ended (stated_alone day) system l J e ∙ sym (open_ended day system l J e)

open_same : (day : Day) (system : List ℕ) (J : History) → open_cycle (stated_alone day) system J ≡ open_cycle day system J
unfolding open_cycle
open_same day system [] = refl
open_same day system (l ∷ J) = open_step day system l J (cycle_taken day system l) refl (open_same day system J)

ended_same : (day : Day) (n : ℕ) (J : History) → cycle_ended (stated_alone day) n J ≡ cycle_ended day n J
unfolding cycle_ended
ended_same day n [] = refl
ended_same day n (l ∷ J) = λ i. if is_in_of n l then false else (some_passes not (cycle_taken day (sender day n) l) || ended_same day n J i)

-- ---- phases

revoked_as_same : (s : Sort) (day : Day) (J : History) (n : ℕ) → revoked_as s (stated_alone day) J n ≡ revoked_as s day J n
revoked_as_same BatchA day J n = λ i. is_some (revoked_same day J n 0 i)
revoked_as_same BatchB day J n = λ i. is_some (revoked_same day J n 0 i)
revoked_as_same BatchE day J n = λ i. list_all (λ k. is_some (revoked_same day J n k i)) (entry_numbers day n)
revoked_as_same _ day J n = refl

settled_as_same : (s : Sort) (day : Day) (J : History) (n : ℕ) → settled_as s (stated_alone day) J n ≡ settled_as s day J n
settled_as_same Pay day J n = refl
settled_as_same BatchA day J n = refl
settled_as_same BatchB day J n = refl
settled_as_same BatchC day J n = refl
settled_as_same BatchD day J n = refl
settled_as_same BatchE day J n = λ i. list_all (λ k. is_booked J n k || is_some (revoked_same day J n k i)) (entry_numbers day n)
settled_as_same _ day J n = refl

open_as_same : (s : Sort) (day : Day) (J : History) (n : ℕ) → open_as s (stated_alone day) J n ≡ open_as s day J n
open_as_same BatchA day J n = refl
open_as_same BatchB day J n = refl
open_as_same BatchE day J n = refl
open_as_same BatchC day J n = λ i. nat_lt (clock J) MIDNIGHT && not (ended_same day n J i)
open_as_same Pay day J n = refl
open_as_same _ day J n = refl

pub phase_same : (day : Day) (J : History) (n : ℕ) → phase (stated_alone day) J n ≡ phase day J n
unfolding phase
phase_same day J n = λ i. first_case (
    (is_none (taken J n), phases.Untaken)
    ∷ (not (is_accepted J n), phases.Rejected)
    ∷ (is_no_order (sort_of day n), phases.Settled)
    ∷ (is_some (closed J n), phases.Closed)
    ∷ (revoked_as_same (sort_of day n) day J n i, phases.Revoked)
    ∷ (settled_as_same (sort_of day n) day J n i, phases.Settled)
    ∷ (is_a (sort_of day n) && is_some (covered J n), phases.Covered)
    ∷ (is_some (asked J n) && is_some (answered_same day J n i), phases.Answered)
    ∷ (is_some (asked J n), phases.Asking)
    ∷ (some_passes (nat_lt (clock J)) (info_end day n), phases.Information)
    ∷ (some_passes (nat_lt (clock J)) (earliest day n), phases.Waiting)
    ∷ (open_as_same (sort_of day n) day J n i, phases.Open)
    ∷ []) phases.Overdue

-- ---- codes of intake

sender_same : (s : Sort) (day : Day) (from : List ℕ) → sender_is_wrong s (stated_alone day) from ≡ sender_is_wrong s day from
sender_same Pay day from = refl
sender_same Liquidity day from = refl
sender_same Object day from = refl
sender_same _ day from = refl

unused_same : (s : Sort) (day : Day) (from : List ℕ) → procedure_is_unused s (stated_alone day) from ≡ procedure_is_unused s day from
unused_same BatchA day from = refl
unused_same BatchB day from = refl
unused_same BatchC day from = refl
unused_same BatchD day from = refl
unused_same BatchE day from = refl
unused_same Cycle day from = refl
unused_same _ day from = refl

zero_same : (s : Sort) (day : Day) (n : ℕ) → is_not_zero s (stated_alone day) n ≡ is_not_zero s day n
zero_same BatchA day n = refl
zero_same BatchB day n = refl
zero_same _ day n = refl

fits_same : (s : Sort) (day : Day) (n : ℕ) (e : Entry) → entry_fits s (stated_alone day) n e ≡ entry_fits s day n e
fits_same BatchA day n e = refl
fits_same BatchB day n e = refl
fits_same BatchC day n e = refl
fits_same BatchD day n e = refl
fits_same BatchE day n e = refl
fits_same _ day n e = refl

info_same : (day : Day) (J : History) (n : ℕ) (o : Option ℕ) → info_is_wrong (stated_alone day) J n o ≡ info_is_wrong day J n o
info_same day J n None = refl
info_same day J n (Some info) = refl

earliest_same : (day : Day) (J : History) (n : ℕ) (o : Option ℕ) → earliest_is_wrong (stated_alone day) J n o ≡ earliest_is_wrong day J n o
earliest_same day J n None = refl
earliest_same day J n (Some from) = refl

periods_same : (day : Day) (J : History) (n : ℕ) → periods_are_wrong (stated_alone day) J n ≡ periods_are_wrong day J n
periods_same day J n = λ i.
    not (nat_lt (clock J) (settlement_end day n))
    || info_same day J n (info_end day n) i
    || earliest_same day J n (earliest day n) i
    || are_crossed (info_end day n) (earliest day n)

times_same : (s : Sort) (day : Day) (J : History) (n : ℕ) → times_are_wrong s (stated_alone day) J n ≡ times_are_wrong s day J n
times_same BatchA day J n = periods_same day J n
times_same BatchB day J n = periods_same day J n
times_same BatchE day J n = periods_same day J n
times_same BatchC day J n = refl
times_same BatchD day J n = refl
times_same _ day J n = refl

cycle_in_same : (day : Day) (J : History) (from : List ℕ) (b : Body) → cycle_is_wrong_in (stated_alone day) J from b ≡ cycle_is_wrong_in day J from b
cycle_in_same day J from (bodies.Batch procedures.A info early till count sum entries) = refl
cycle_in_same day J from (bodies.Batch procedures.B info early till count sum entries) = refl
cycle_in_same day J from (bodies.Batch procedures.C info early till count sum entries) = λ i. is_none (open_same day from J i)
cycle_in_same day J from (bodies.Batch procedures.D info early till count sum entries) = refl
cycle_in_same day J from (bodies.Batch procedures.E info early till count sum entries) = refl
cycle_in_same day J from (bodies.Cycle true) = λ i. is_some (open_same day from J i)
cycle_in_same day J from (bodies.Cycle false) = λ i. is_none (open_same day from J i)
cycle_in_same day J from _ = refl

cycle_same : (day : Day) (J : History) (n : ℕ) → cycle_is_wrong (stated_alone day) J n ≡ cycle_is_wrong day J n
cycle_same day J n = λ i. some_passes (λ m. cycle_in_same day J m.sender m.body i) (message_at day n)

accounts_same : (s : Sort) (day : Day) (n : ℕ) → accounts_are_wrong s (stated_alone day) n ≡ accounts_are_wrong s day n
accounts_same Pay day n = refl
accounts_same Liquidity day n = refl
accounts_same _ day n = refl

linked_none : (day : Day) (a : ℕ) → account_at day a ≡ None → linked day a ≡ None
linked_none day a e = rw e refl

linked_is : (day : Day) (a : ℕ) (r : AccountRecord) → account_at day a ≡ Some r → linked day a ≡ r.system
linked_is day a r e = rw e refl

linked_by : (day : Day) (a : ℕ) (o : Option AccountRecord) → account_at day a ≡ o → linked (stated_alone day) a ≡ linked day a
linked_by day a None e = linked_none (stated_alone day) a e ∙ sym (linked_none day a e)
linked_by day a (Some r) e = linked_is (stated_alone day) a r e ∙ sym (linked_is day a r e)

locked_same : (day : Day) (J : History) (a : ℕ) → is_locked (stated_alone day) J a ≡ is_locked day J a
locked_same day J a = λ i. is_sub_account day a && some_passes (λ system. is_some (open_same day system J i)) (linked_by day a (account_at day a) refl i)

debit_locked_same : (day : Day) (J : History) (n : ℕ) → debit_is_locked (stated_alone day) J n ≡ debit_is_locked day J n
debit_locked_same day J n = λ i. is_liquidity (sort_of day n) && some_passes (λ e. locked_same day J (debit_account day e) i) (transfer day n)

target_in_same : (day : Day) (J : History) (from : List ℕ) (b : Body) → target_in (stated_alone day) J from b ≡ target_in day J from b
target_in_same day J from (bodies.Object system id) = batch_same day J system id
target_in_same day J from (bodies.Confirm id answer) = batch_same day J from id
target_in_same day J from _ = refl

target_of_same : (day : Day) (J : History) (o : Option Message) → target_of_message (stated_alone day) J o ≡ target_of_message day J o
target_of_same day J None = refl
target_of_same day J (Some m) = target_in_same day J m.sender m.body

pub target_same : (day : Day) (J : History) (n : ℕ) → target (stated_alone day) J n ≡ target day J n
target_same day J n = target_of_same day J (message_at day n)

missing_same : (s : Sort) (day : Day) (J : History) (n : ℕ) → target_is_missing s (stated_alone day) J n ≡ target_is_missing s day J n
missing_same Object day J n = λ i. is_none (target_same day J n i)
missing_same Confirm day J n = λ i. is_none (target_same day J n i)
missing_same _ day J n = refl

wrong_phase_same : (s : Sort) (day : Day) (J : History) (n : ℕ) → phase_is_wrong s (stated_alone day) J n ≡ phase_is_wrong s day J n
wrong_phase_same Object day J n = λ i. some_passes (λ b. not (is_information (phase_same day J b i))) (target_same day J n i)
wrong_phase_same Confirm day J n = λ i. some_passes (λ b. not (is_asking (phase_same day J b i))) (target_same day J n i)
wrong_phase_same _ day J n = refl

party_same : (s : Sort) (day : Day) (J : History) (n : ℕ) → is_no_party s (stated_alone day) J n ≡ is_no_party s day J n
party_same Object day J n = λ i. some_passes (λ b. not (list_any (is_party day (sender day n)) (entries day b))) (target_same day J n i)
party_same _ day J n = refl

code_same : (day : Day) (J : History) (n : ℕ) → intake_code (stated_alone day) J n ≡ intake_code day J n
unfolding intake_code
code_same day J n = λ i. first_case (
    (repeat_same day n i, line_codes.Du)
    ∷ (sender_same (sort_of day n) day (sender day n) i, line_codes.Us)
    ∷ (unused_same (sort_of day n) day (sender day n) i, line_codes.Pr)
    ∷ (count_is_wrong day n, line_codes.Ct)
    ∷ (sum_is_wrong day n, line_codes.Sm)
    ∷ (zero_same (sort_of day n) day n i, line_codes.Nz)
    ∷ (not (list_all (λ e. fits_same (sort_of day n) day n e i) (entries day n)), line_codes.En)
    ∷ (times_same (sort_of day n) day J n i, line_codes.Ti)
    ∷ (cycle_same day J n i, line_codes.Cy)
    ∷ (accounts_same (sort_of day n) day n i, line_codes.Ac)
    ∷ (debit_locked_same day J n i, line_codes.Lk)
    ∷ (debit_is_short day J n, line_codes.Nc)
    ∷ (missing_same (sort_of day n) day J n i, line_codes.Bt)
    ∷ (wrong_phase_same (sort_of day n) day J n i, line_codes.Ph)
    ∷ (party_same (sort_of day n) day J n i, line_codes.Np)
    ∷ []) line_codes.Ok

transfer_same : (day : Day) (o : Option Entry) → transfer_moves (stated_alone day) o ≡ transfer_moves day o
transfer_same day None = refl
transfer_same day (Some e) = refl

moves_same : (s : Sort) (day : Day) (J : History) (n : ℕ) → moves_as s (stated_alone day) J n ≡ moves_as s day J n
moves_same Liquidity day J n = transfer_same day (transfer day n)
moves_same BatchD day J n = refl
moves_same _ day J n = refl

intake_moves_same : (day : Day) (J : History) (n : ℕ) (code : Code) → intake_moves (stated_alone day) J n code ≡ intake_moves day J n code
intake_moves_same day J n line_codes.Ok = moves_same (sort_of day n) day J n
intake_moves_same day J n _ = refl

-- ---- pending items

pending_as_same : (s : Sort) (day : Day) (J : History) (n k : ℕ) (p : Phase) → pending_as s (stated_alone day) J n k p ≡ pending_as s day J n k p
pending_as_same Pay day J n k p = refl
pending_as_same BatchA day J n k p = refl
pending_as_same BatchB day J n k p = refl
pending_as_same BatchC day J n k p = refl
pending_as_same BatchE day J n k p = λ i. is_some (entry_at day n k) && is_open p && not (is_booked J n k) && not (is_some (revoked_same day J n k i))
pending_as_same _ day J n k p = refl

pending_same : (day : Day) (J : History) (x : Item) → is_pending (stated_alone day) J x ≡ is_pending day J x
unfolding is_pending
pending_same day J x = λ i. pending_as_same (sort_of day x.msg) day J x.msg x.entry (phase_same day J x.msg i) i

debit_part_same : (day : Day) (o : Option Entry) → debit_account_of_part (stated_alone day) o ≡ debit_account_of_part day o
debit_part_same day None = refl
debit_part_same day (Some e) = refl

debit_accounts_same : (s : Sort) (day : Day) (n k : ℕ) → debit_accounts_as s (stated_alone day) n k ≡ debit_accounts_as s day n k
debit_accounts_same BatchB day n k = refl
debit_accounts_same _ day n k = λ i. debit_part_same day (part_same day n k i) i

stands_same : (day : Day) (a : ℕ) (x : Item) → stands_on (stated_alone day) a x ≡ stands_on day a x
stands_same day a x = λ i. list_any (λ b. nat_eq b a) (debit_accounts_same (sort_of day x.msg) day x.msg x.entry i)

priority_same : (s : Sort) (day : Day) (n : ℕ) → priority_as s (stated_alone day) n ≡ priority_as s day n
priority_same Pay day n = refl
priority_same _ day n = refl

opened_same : (day : Day) (J : History) (n : ℕ) (o : Option ℕ) → opened_at (stated_alone day) J n o ≡ opened_at day J n o
opened_same day J n None = refl
opened_same day J n (Some info) = refl

active_same : (day : Day) (J : History) (x : Item) → active_place (stated_alone day) J x ≡ active_place day J x
active_same day J x = λ i.
    if is_a (sort_of day x.msg) && is_credit day x.msg x.entry
    then unwrap_or (covered J x.msg) (last_debit_booked day J x.msg)
    else opened_same day J x.msg (settlement_start day x.msg) i

standing_same : (day : Day) (J : History) (x : Item) → standing (stated_alone day) J x ≡ standing day J x
standing_same day J x = λ i. record {
  priority = priority_same (sort_of day x.msg) day x.msg i;
  active = active_same day J x i;
  intake = unwrap_or (taken J x.msg) 0;
  entry = x.entry;
}

before_same : (day : Day) (J : History) (x y : Item) → stands_before (stated_alone day) J x y ≡ stands_before day J x y
before_same day J x y = λ i. not (is_normal (priority_same (sort_of day y.msg) day y.msg i)) && is_ahead (standing_same day J y i) (standing_same day J x i)

blocker_same : (day : Day) (J : History) (x : Item) (a : ℕ) (y : Item) → is_blocker (stated_alone day) J x a y ≡ is_blocker day J x a y
blocker_same day J x a y = λ i. pending_same day J y i && stands_same day a y i && before_same day J x y i

blocked_by_same : (day : Day) (J : History) (x : Item) (a n : ℕ) → is_blocked_by (stated_alone day) J x a n ≡ is_blocked_by day J x a n
unfolding is_blocked_by
blocked_by_same day J x a n = λ i. list_any (λ k. blocker_same day J x a (item n k) i) (item_numbers day n)

blocked_same : (day : Day) (J : History) (x : Item) (a : ℕ) → is_blocked (stated_alone day) J x a ≡ is_blocked day J x a
unfolding is_blocked
blocked_same day J x a = λ i. list_any (λ n. blocked_by_same day J x a n i) (message_numbers day)

-- ---- lines

in_line_same : (day : Day) (J : History) (n : ℕ) → in_line (stated_alone day) J n ≡ in_line day J n
in_line_same day J n = λ i. line kinds.In n 0 (code_same day J n i) (intake_moves_same day J n (code_same day J n i) i)

kept_same : (day : Day) (a : ℕ) (high : Bool) → kept (stated_alone day) a high ≡ kept day a high
kept_same day a true = refl
kept_same day a false = refl

leave_same : (s : Sort) (day : Day) (n a : ℕ) → must_leave_as s (stated_alone day) n a ≡ must_leave_as s day n a
leave_same Pay day n a = kept_same day a (is_high day n)
leave_same _ day n a = refl

may_book_same : (day : Day) (J : History) (n k : ℕ) → may_book (stated_alone day) J n k ≡ may_book day J n k
may_book_same day J n k = λ i.
    pending_same day J (item n k) i && not (is_b (sort_of day n))
    && some_passes (λ e. not (blocked_same day J (item n k) (debit_account day e) i) && nat_le (e.amount + leave_same (sort_of day n) day n (debit_account day e) i) (balance day J (debit_account day e))) (part_same day n k i)

part_moves_same : (day : Day) (o : Option Entry) → moves_of_part (stated_alone day) o ≡ moves_of_part day o
part_moves_same day None = refl
part_moves_same day (Some e) = refl

book_line_same : (day : Day) (n k : ℕ) → book_line (stated_alone day) n k ≡ book_line day n k
book_line_same day n k = λ i. line kinds.Book n k line_codes.Ok (part_moves_same day (part_same day n k i) i)

may_whole_same : (day : Day) (J : History) (n : ℕ) → may_settle_whole (stated_alone day) J n ≡ may_settle_whole day J n
may_whole_same day J n = λ i.
    is_b (sort_of day n) && pending_same day J (item n 0) i
    && list_all (λ a. not (blocked_same day J (item n 0) a i)) (debtors day n)
    && list_all (λ a. not (is_short_debtor day J n a)) (debtors day n)

may_ask_same : (day : Day) (J : History) (n : ℕ) → may_ask (stated_alone day) J n ≡ may_ask day J n
may_ask_same day J n = λ i. is_a_or_b (sort_of day n) && is_overdue (phase_same day J n i) && is_some (fund_of day n) && nat_lt (clock J) MIDNIGHT

reversal_same : (s : Sort) (day : Day) (J : History) (n : ℕ) → reversal s (stated_alone day) J n ≡ reversal s day J n
reversal_same BatchA day J n = refl
reversal_same _ day J n = refl

expiry_same : (s : Sort) (day : Day) (J : History) (n : ℕ) → expiry_code s (stated_alone day) J n ≡ expiry_code s day J n
expiry_same BatchC day J n = λ i. if ended_same day n J i then line_codes.Ce else line_codes.Ed
expiry_same Pay day J n = refl
expiry_same _ day J n = refl

may_expire_same : (day : Day) (J : History) (n : ℕ) → may_expire (stated_alone day) J n ≡ may_expire day J n
may_expire_same day J n = λ i. may_lapse (sort_of day n) && is_overdue (phase_same day J n i) && not (may_ask_same day J n i)

expire_line_same : (day : Day) (J : History) (n : ℕ) → expire_line (stated_alone day) J n ≡ expire_line day J n
expire_line_same day J n = λ i. line kinds.Expire n 0 (expiry_same (sort_of day n) day J n i) (reversal_same (sort_of day n) day J n i)

need_same : (s : Sort) (day : Day) (J : History) (n : ℕ) → need_as s (stated_alone day) J n ≡ need_as s day J n
need_same BatchA day J n = refl
need_same BatchB day J n = refl
need_same _ day J n = refl

covers_same : (day : Day) (J : History) (n : ℕ) → fund_suffices (stated_alone day) J n ≡ fund_suffices day J n
covers_same day J n = λ i. nat_le (need_same (sort_of day n) day J n i) (balance day J (fund_account day n))

yes_same : (day : Day) (J : History) (n : ℕ) → is_answered_yes (stated_alone day) J n ≡ is_answered_yes day J n
yes_same day J n = λ i. is_a_or_b (sort_of day n) && is_answered (phase_same day J n i) && unwrap_or (answer_same day J n i) false

no_same : (day : Day) (J : History) (n : ℕ) → is_answered_no (stated_alone day) J n ≡ is_answered_no day J n
no_same day J n = λ i. is_a_or_b (sort_of day n) && is_answered (phase_same day J n i) && not (unwrap_or (answer_same day J n i) false)

unanswered_same : (day : Day) (J : History) (n : ℕ) → is_unanswered (stated_alone day) J n ≡ is_unanswered day J n
unanswered_same day J n = λ i. is_a_or_b (sort_of day n) && is_asking (phase_same day J n i) && nat_eq (clock J) MIDNIGHT

cover_moves_same : (s : Sort) (day : Day) (J : History) (n : ℕ) → cover_moves s (stated_alone day) J n ≡ cover_moves s day J n
cover_moves_same BatchA day J n = refl
cover_moves_same BatchB day J n = refl
cover_moves_same _ day J n = refl

may_cover_same : (day : Day) (J : History) (n : ℕ) → may_cover (stated_alone day) J n ≡ may_cover day J n
may_cover_same day J n = λ i. yes_same day J n i && covers_same day J n i

cover_line_same : (day : Day) (J : History) (n : ℕ) → cover_line (stated_alone day) J n ≡ cover_line day J n
cover_line_same day J n = λ i. line kinds.Cover n 0 line_codes.Ok (cover_moves_same (sort_of day n) day J n i)

refusal_same : (day : Day) (J : History) (n : ℕ) → refusal (stated_alone day) J n ≡ refusal day J n
refusal_same day J n = λ i. first_some (
    when (no_same day J n i) line_codes.Gn
    ∷ when (yes_same day J n i && not (covers_same day J n i)) line_codes.Gs
    ∷ when (unanswered_same day J n i) line_codes.Ge
    ∷ [])

may_refuse_same : (day : Day) (J : History) (n : ℕ) → may_refuse (stated_alone day) J n ≡ may_refuse day J n
may_refuse_same day J n = λ i. is_some (refusal_same day J n i)

refuse_line_same : (day : Day) (J : History) (n : ℕ) → refuse_line (stated_alone day) J n ≡ refuse_line day J n
refuse_line_same day J n = λ i. line kinds.Refuse n 0 (unwrap_or (refusal_same day J n i) line_codes.Ge) (reversal_same (sort_of day n) day J n i)

-- ---- what is ready

message_want_same : (day : Day) (J : History) (n : ℕ) (p : Phase) → message_want (stated_alone day) J n p ≡ message_want day J n p
message_want_same day J n phases.Overdue = λ i. if may_ask_same day J n i then wants.Ask n else wants.Expire n
message_want_same day J n phases.Answered = λ i. if may_cover_same day J n i then wants.Cover n else wants.Refuse n
message_want_same day J n phases.Asking = refl
message_want_same day J n _ = refl

pub item_want_same : (day : Day) (J : History) (n k : ℕ) → item_want (stated_alone day) J n k ≡ item_want day J n k
item_want_same day J n zero = λ i. message_want_same day J n (phase_same day J n i) i
item_want_same day J n (suc k) = refl

may_item_same : (day : Day) (J : History) (w : Want) → may_item (stated_alone day) J w ≡ may_item day J w
may_item_same day J (wants.Book n k) = may_book_same day J n k
may_item_same day J (wants.All n) = may_whole_same day J n
may_item_same day J (wants.Expire n) = may_expire_same day J n
may_item_same day J (wants.Ask n) = may_ask_same day J n
may_item_same day J (wants.Cover n) = may_cover_same day J n
may_item_same day J (wants.Refuse n) = may_refuse_same day J n
may_item_same day J _ = refl

ready_item_same : (day : Day) (J : History) (n k : ℕ) → is_ready_item (stated_alone day) J n k ≡ is_ready_item day J n k
unfolding is_ready_item
ready_item_same day J n k = λ i. may_item_same day J (item_want_same day J n k i) i

ready_message_same : (day : Day) (J : History) (n : ℕ) → is_ready_message (stated_alone day) J n ≡ is_ready_message day J n
unfolding is_ready_message
ready_message_same day J n = λ i. list_any (λ k. ready_item_same day J n k i) (item_numbers day n)

ready_same : (day : Day) (J : History) → is_ready (stated_alone day) J ≡ is_ready day J
unfolding is_ready
ready_same day J = λ i. list_any (λ n. ready_message_same day J n i) (message_numbers day) || list_any (may_sweep day J) (account_numbers day)

stop_same : (day : Day) (J : History) → next_stop (stated_alone day) J ≡ next_stop day J
unfolding next_stop
stop_same day J = refl

taken_same : (day : Day) (J : History) → all_taken (stated_alone day) J ≡ all_taken day J
unfolding all_taken
taken_same day J = refl

-- ---- the line of a want

may_same : (day : Day) (J : History) (w : Want) → may (stated_alone day) J w ≡ may day J w
may_same day J (wants.In n) = refl
may_same day J (wants.Book n k) = may_book_same day J n k
may_same day J (wants.All n) = may_whole_same day J n
may_same day J wants.Time = λ i. nat_lt (clock J) MIDNIGHT && taken_same day J i && not (ready_same day J i)
may_same day J (wants.Expire n) = may_expire_same day J n
may_same day J (wants.Ask n) = may_ask_same day J n
may_same day J (wants.Cover n) = may_cover_same day J n
may_same day J (wants.Refuse n) = may_refuse_same day J n
may_same day J (wants.Sweep a) = refl
may_same day J wants.End = λ i. nat_eq (clock J) MIDNIGHT && not (ready_same day J i)

made_same : (day : Day) (J : History) (w : Want) → made (stated_alone day) J w ≡ made day J w
made_same day J (wants.In n) = in_line_same day J n
made_same day J (wants.Book n k) = book_line_same day n k
made_same day J (wants.All n) = refl
made_same day J wants.Time = λ i. line kinds.Time 0 (stop_same day J i) line_codes.Ok []
made_same day J (wants.Expire n) = expire_line_same day J n
made_same day J (wants.Ask n) = refl
made_same day J (wants.Cover n) = cover_line_same day J n
made_same day J (wants.Refuse n) = refuse_line_same day J n
made_same day J (wants.Sweep a) = refl
made_same day J wants.End = refl

pub line_same : (day : Day) (J : History) (w : Want) → line_of (stated_alone day) J w ≡ line_of day J w
unfolding line_of
line_same day J w = λ i. line_if (not (is_ended J) && may_same day J w i) (made_same day J w i)

-- ---- legal journals

legal_first : (day : Day) (J : History) → IsLegal (stated_alone day) J → IsLegal day J
legal_first day [] h = h
legal_first day (l ∷ J) h = (legal_first day J h.0, sym (line_same day J (want_of l)) ∙ h.1)

legal_second : (day : Day) (J : History) → IsLegal day J → IsLegal (stated_alone day) J
legal_second day [] h = h
legal_second day (l ∷ J) h = (legal_second day J h.0, line_same day J (want_of l) ∙ h.1)

-- and so in any version and in any room, as what the two days state alone is the same
pub legal_in_any : (version : ℕ) (day : Day) (J : History) → IsLegal (in_version version day) J ↔ IsLegal day J
legal_in_any version day J = (
  λ h. legal_first day J (legal_second (in_version version day) J h),
  λ h. legal_first (in_version version day) J (legal_second day J h),
)

pub same_legal : (day : Day) (J : History) → IsLegal (migrated day) J ↔ IsLegal day J
same_legal day J = legal_in_any (migrated day).version day J

pub legal_in_room : (room : Room) (day : Day) (J : History) → IsLegal (in_room room day) J ↔ IsLegal day J
legal_in_room room day J = (
  λ h. legal_first day J (legal_second (in_room room day) J h),
  λ h. legal_first (in_room room day) J (legal_second day J h),
)

-- ---- words of two days that differ in their room alone

pub line_in_room : (room : Room) (day : Day) (J : History) (w : Want) → line_of (in_room room day) J w ≡ line_of day J w
line_in_room room day J w = sym (line_same (in_room room day) J w) ∙ line_same day J w

pub item_want_in_room : (room : Room) (day : Day) (J : History) (n k : ℕ) → item_want (in_room room day) J n k ≡ item_want day J n k
item_want_in_room room day J n k = sym (item_want_same (in_room room day) J n k) ∙ item_want_same day J n k

pub phase_in_room : (room : Room) (day : Day) (J : History) (n : ℕ) → phase (in_room room day) J n ≡ phase day J n
phase_in_room room day J n = sym (phase_same (in_room room day) J n) ∙ phase_same day J n

pub revoked_in_room : (room : Room) (day : Day) (J : History) (n k : ℕ) → revoked (in_room room day) J n k ≡ revoked day J n k
revoked_in_room room day J n k = sym (revoked_same (in_room room day) J n k) ∙ revoked_same day J n k

pub target_in_room : (room : Room) (day : Day) (J : History) (n : ℕ) → target (in_room room day) J n ≡ target day J n
target_in_room room day J n = sym (target_same (in_room room day) J n) ∙ target_same day J n
