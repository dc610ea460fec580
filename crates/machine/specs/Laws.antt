-- The laws of legal histories, as statements.
use Rattle.std.specs.Prelude.{ℕ, ◌+◌, ◌-◌, ◌<◌, ◌≤◌, ◌≡◌, ◌⊎◌, Bool, true, false, not, ◌&&◌, ◌||◌, List, [], ◌∷◌, ◌++◌, Some, None, nat_eq, nat_le, length, take, drop, map, filter, flat_map, sum_by, count_by, is_some, IsSome, slice_get}
use Rattle.period_calendar.specs.declared.time.TheConstants.{MIDNIGHT}
use Rattle.batch_records.specs.DayRecord.{Day}
use Rattle.batch_records.specs.declared.day.Entry.{Entry}
use Rattle.commit_journal.specs.declared.line.Move.{Move}
use Rattle.commit_journal.specs.declared.line.Kind.{Kind}
use Rattle.commit_journal.specs.declared.line.Kind.TheVariants as kinds
use Rattle.commit_journal.specs.declared.line.Code.{Code}
use Rattle.commit_journal.specs.declared.line.Code.TheVariants as line_codes
use Rattle.commit_journal.specs.declared.line.Want.{Want}
use Rattle.commit_journal.specs.Line.{Line, History}
use Rattle.machine.specs.declared.answers.Phase.{Phase}
use Rattle.machine.specs.declared.answers.Phase.TheVariants as phases
use Rattle.machine.specs.Words.{is_empty}
use Rattle.machine.specs.Records.Setup.{account_numbers, opening, owner, is_sub_account, first_dca}
use Rattle.machine.specs.Records.Messages.{Sort, sort_of, sender, entries, entry_at, debit_entries, credit_entries, debit_account, credit_account, move_of, technical_account, fund_account, is_message, is_pay, is_batch, is_a, is_b, is_a_or_b, is_c, is_d, is_e, fund_of, is_liquidity, is_credit, is_repeat, part, transfer, settlement_end}
use Rattle.machine.specs.Telling.History.{is_in, is_ok, is_book, is_time, is_end, is_all, is_ask, is_cover, is_expire_or_refuse, is_sweep, is_in_of, is_book_of, taken, booked, covered, closed, is_ended, is_accepted, clock}
use Rattle.machine.specs.Telling.Balances.{credits, debits, credited, debited, balance}
use Rattle.machine.specs.Telling.Facts.{is_reached, revoked, answer, takes_well, cycle_ended}
use Rattle.machine.specs.Stages.Phases.{phase, revoked_as, is_overdue, is_answered}
use Rattle.machine.specs.Stages.Intake.{amount_of, intake_code, transfer_moves}
use Rattle.machine.specs.Stages.Pending.{item, is_pending, stands_on, is_blocked, first_unbooked_debit}
use Rattle.machine.specs.Making.Lines.{line_of, moves_of_part, is_short_debtor, counted_entries, debit_entries_by, return_of, cover_of, next_stop}
use Rattle.machine.specs.Legal.{is_complete, want_of}
use Rattle.machine.specs.Orders.Bounds.{line_limit_of, most_lines, most_moves, move_limit_of, moved}

-- ---- ways to speak of a history

-- it holds of each line and the history before it
abbrev pub EachLine : (Line → History → Type 0) → History → Type 0
EachLine P [] = Unit {0}
EachLine P (l ∷ J) = EachLine P J × P l J

abbrev pub is_order : Sort → Bool
is_order sort = is_pay sort || is_batch sort

-- ---- no account is below zero, after any move of any line

abbrev pub StaysCovered : Day → History → List Move → Type 0
StaysCovered day J moves = (a i : ℕ) → debited J a + debits a (take i moves) ≤ (opening day a + credited J a) + credits a (take i moves)

abbrev pub IsNeverBelowZero : Day → History → Type 0
IsNeverBelowZero day J = EachLine (λ l before. StaysCovered day before l.moves) J

-- ---- the balances sum to the openings

abbrev pub IsConserved : Day → History → Type 0
IsConserved day J = sum_by (balance day J) (account_numbers day) ≡ sum_by (opening day) (account_numbers day)

-- after each line
abbrev pub IsConservedThroughout : Day → History → Type 0
IsConservedThroughout day J = EachLine (λ l before. IsConserved day (l ∷ before)) J

-- ---- A credits wait for the debits, or for the fund

abbrev pub WaitsForDebits : Day → Line → History → Type 0
WaitsForDebits day l J = (n k : ℕ) → is_book_of n k l ≡ true → is_a (sort_of day n) ≡ true → is_credit day n k ≡ true →
    (first_unbooked_debit day J n ≡ None) ⊎ IsSome (covered J n)

abbrev pub CreditsFollowDebits : Day → History → Type 0
CreditsFollowDebits day J = EachLine (WaitsForDebits day) J

-- ---- B batches settle whole or not at all

-- the lines of message n that move something
abbrev pub moving_lines : ℕ → History → History
moving_lines n J = filter (λ l. nat_eq l.head.msg n && not (is_empty l.moves)) J

-- the move pays for the entry, from its debit account or from the fund
abbrev pub pays_for : Day → ℕ → Move → Entry → Bool
pays_for day n m e = nat_eq m.credit (credit_account day e) && nat_eq m.amount e.amount && (nat_eq m.debit (debit_account day e) || nat_eq m.debit (fund_account day n))

abbrev pub each_pays : Day → ℕ → List Move → List Entry → Bool
each_pays day n [] [] = true
each_pays day n (m ∷ ms) (e ∷ es) = pays_for day n m e && each_pays day n ms es
each_pays day n _ _ = false

-- a line that settles batch n whole: its debits and then its credits, where the fund may pay for debits
abbrev pub SettlesWhole : Day → ℕ → Line → Type 0
SettlesWhole day n l =
    ((is_all l.head.kind ≡ true) × (l.moves ≡ map (move_of day) (debit_entries day n ++ credit_entries day n)))
    ⊎ ((is_cover l.head.kind ≡ true)
    × (each_pays day n (take (length (debit_entries day n)) l.moves) (debit_entries day n) ≡ true)
    × (drop (length (debit_entries day n)) l.moves ≡ map (move_of day) (credit_entries day n)))

abbrev pub IsWholeOrNothing : Day → History → Type 0
IsWholeOrNothing day J = (n : ℕ) → is_b (sort_of day n) ≡ true →
    (moving_lines n J ≡ []) ⊎ ((l : Line) × (moving_lines n J ≡ l ∷ []) × SettlesWhole day n l)

-- ---- time leaves nothing undone

abbrev pub is_due : Phase → Bool
is_due phases.Overdue = true
is_due phases.Answered = true
is_due phases.Covered = true
is_due _ = false

abbrev pub is_done : Phase → Bool
is_done phases.Settled = true
is_done phases.Revoked = true
is_done phases.Closed = true
is_done _ = false

abbrev pub NothingIsDue : Day → Line → History → Type 0
NothingIsDue day l J = (is_time l.head.kind || is_end l.head.kind) ≡ true → (n : ℕ) → is_order (sort_of day n) ≡ true → is_due (phase day J n) ≡ false

-- in a complete journal each accepted payment and batch is settled, revoked or closed
abbrev pub AllIsDone : Day → History → Type 0
AllIsDone day J = is_complete J ≡ true → (n : ℕ) → is_order (sort_of day n) ≡ true → is_accepted J n ≡ true → is_done (phase day J n) ≡ true

-- the moves of message n
abbrev pub moves_of_message : ℕ → History → List Move
moves_of_message n J = flat_map (λ l. l.moves) (moving_lines n J)

abbrev pub ClosedCancels : Day → History → Type 0
ClosedCancels day J = (n a : ℕ) → is_a (sort_of day n) ≡ true → is_some (closed J n) ≡ true →
    credits a (moves_of_message n J) ≡ debits a (moves_of_message n J)

abbrev pub ClosedMovesNothing : Day → History → Type 0
ClosedMovesNothing day J = (n : ℕ) → is_b (sort_of day n) ≡ true → is_some (closed J n) ≡ true → moving_lines n J ≡ []

abbrev pub NothingIsLeft : Day → History → Type 0
NothingIsLeft day J = EachLine (NothingIsDue day) J × AllIsDone day J × ClosedCancels day J × ClosedMovesNothing day J

-- ---- a repeat is taken as a repeat, and nothing else

abbrev pub IsTakenAsRepeat : Day → Line → History → Type 0
IsTakenAsRepeat day l J = is_repeat day l.head.msg ≡ true → (l.head.kind ≡ kinds.In) × (l.head.code ≡ line_codes.Du) × (l.moves ≡ [])

abbrev pub RepeatsDoNothing : Day → History → Type 0
RepeatsDoNothing day J = EachLine (IsTakenAsRepeat day) J

-- ---- C and E book each entry once

abbrev pub IsBookedOnce : Day → History → Type 0
IsBookedOnce day J = (n k : ℕ) → (is_c (sort_of day n) || is_e (sort_of day n)) ≡ true → count_by (is_book_of n k) J ≤ 1

abbrev pub is_entry_done : Day → History → ℕ → ℕ → Bool
is_entry_done day J n k = is_some (booked J n k) || is_some (revoked day J n k) || is_some (closed J n)

-- in a complete journal
abbrev pub EntriesAreDone : Day → History → Type 0
EntriesAreDone day J = is_complete J ≡ true → (n k : ℕ) → (is_c (sort_of day n) || is_e (sort_of day n)) ≡ true → is_accepted J n ≡ true →
    1 ≤ k → k ≤ length (entries day n) → is_entry_done day J n k ≡ true

abbrev pub EntriesSettleOnce : Day → History → Type 0
EntriesSettleOnce day J = IsBookedOnce day J × EntriesAreDone day J

-- ---- each message is taken once, in its sender's order

abbrev pub FollowsSender : Day → Line → History → Type 0
FollowsSender day l J = (n i : ℕ) → is_in_of n l ≡ true → 1 ≤ i → i < n → sender day i ≡ sender day n → IsSome (taken J i)

-- in every journal at most once, and in a complete one exactly once
abbrev pub NoneIsTakenTwice : History → Type 0
NoneIsTakenTwice J = (n : ℕ) → count_by (is_in_of n) J ≤ 1

abbrev pub EachIsTakenOnce : Day → History → Type 0
EachIsTakenOnce day J = is_complete J ≡ true → (n : ℕ) → 1 ≤ n → n ≤ length day.messages → count_by (is_in_of n) J ≡ 1

abbrev pub MessagesInOrder : Day → History → Type 0
MessagesInOrder day J = NoneIsTakenTwice J × EachIsTakenOnce day J × EachLine (FollowsSender day) J

-- ---- the day ends

-- by the bounds of the day, which are below those of all days of its version
abbrev pub IsBounded : Day → History → Type 0
IsBounded day J = (length J ≤ most_lines day) × (moved J ≤ most_moves day) × (length J < line_limit_of day.version) × (moved J < move_limit_of day.version)

abbrev pub SomethingHasALine : Day → History → Type 0
SomethingHasALine day J = is_ended J ≡ false → (want : Want) × IsSome (line_of day J want)

-- after each line, and after the last
abbrev pub AlwaysGoesOn : Day → History → Type 0
AlwaysGoesOn day J = EachLine (λ l before. SomethingHasALine day before) J × SomethingHasALine day J

abbrev pub GoesOn : Day → History → Type 0
GoesOn day J = IsBounded day J × AlwaysGoesOn day J

-- ---- nothing is booked twice

-- of every message n and entry k the journal has one Book line or none: a payment has entry 0, and of a batch k is the entry
abbrev pub NoneIsBookedTwice : History → Type 0
NoneIsBookedTwice J = (n k : ℕ) → count_by (is_book_of n k) J ≤ 1

-- ---- what moves is what was stated

-- whether a line of this kind and code can move money, where its message is of this sort: a Book or Sweep line, the All line of a batch of B,
-- the Cover line of one of A or B, the In line that accepts a liquidity transfer or a batch of D, and the Expire or Refuse line of a batch of A
abbrev pub may_move : Kind → Code → Sort → Bool
may_move kinds.Book code sort = true
may_move kinds.All code sort = is_b sort
may_move kinds.Cover code sort = is_a_or_b sort
may_move kinds.Sweep code sort = true
may_move kinds.In code sort = is_ok code && (is_liquidity sort || is_d sort)
may_move kinds.Expire code sort = is_a sort
may_move kinds.Refuse code sort = is_a sort
may_move _ code sort = false

-- each debit entry of batch n that is booked is given back, in order, and nothing else
abbrev pub GivesBackTheBooked : Day → History → ℕ → List Move → Type 0
GivesBackTheBooked day J n moves = moves ≡ map (return_of day n) (debit_entries_by day n (λ k. is_some (booked J n k)))

-- A Book line has the move of its payment or its entry and no other, the In line of a liquidity transfer with code OK the move that the
-- transfer states, the Expire or Refuse line of a batch of A gives back what is booked, and an All line has the moves of all debit entries and
-- then of all credit entries. No other line moves anything but a Cover line of A or B, the In line of an accepted batch of D and a Sweep line,
-- of which other laws say what they move.
abbrev pub HasItsMove : Day → Line → History → Type 0
HasItsMove day l J =
    (is_book l.head.kind ≡ true → l.moves ≡ moves_of_part day (part day l.head.msg l.head.entry))
    × (takes_well l ≡ true → is_liquidity (sort_of day l.head.msg) ≡ true → l.moves ≡ transfer_moves day (transfer day l.head.msg))
    × (is_expire_or_refuse l.head.kind ≡ true → is_a (sort_of day l.head.msg) ≡ true → GivesBackTheBooked day J l.head.msg l.moves)
    × (may_move l.head.kind l.head.code (sort_of day l.head.msg) ≡ false → l.moves ≡ [])
    × (is_all l.head.kind ≡ true → l.moves ≡ map (move_of day) (debit_entries day l.head.msg) ++ map (move_of day) (credit_entries day l.head.msg))

abbrev pub MovedAsStated : Day → History → Type 0
MovedAsStated day J = EachLine (HasItsMove day) J

-- ---- which entries of an accepted batch of procedure D are moved

-- the entries of batch n whose numbers pass, in their order
abbrev pub entries_by : Day → ℕ → (ℕ → Bool) → List Entry
entries_by day n test = map (λ (x : ℕ × Entry). x.1) (filter (λ (x : ℕ × Entry). test x.0) (counted_entries day n))

-- what those of them amount to that stand before entry k
abbrev pub amount_before : Day → ℕ → (ℕ → Bool) → ℕ → ℕ
amount_before day n test k = sum_by amount_of (map (λ (x : ℕ × Entry). x.1) (filter (λ (x : ℕ × Entry). test x.0) (take (k - 1) (counted_entries day n))))

-- The line moves some of its batch's entries, in their order: entry k exactly where its amount, with the amounts of the entries before it
-- that are moved, is at most what the technical account held before the line.
pub record MovesWhatIsAfforded (day : Day) (J : History) (l : Line) : Type 0 where
  pub is_moved : ℕ → Bool
  pub moves : l.moves ≡ map (move_of day) (entries_by day l.head.msg is_moved)
  pub covered : (k : ℕ) (e : Entry) → entry_at day l.head.msg k ≡ Some e →
      is_moved k ≡ nat_le (e.amount + amount_before day l.head.msg is_moved k) (balance day J (technical_account day l.head.msg))

-- so does each line that takes a batch of D with code OK
abbrev pub BatchesOfDMoveInTurn : Day → History → Type 0
BatchesOfDMoveInTurn day J = EachLine (λ l before. takes_well l ≡ true → is_d (sort_of day l.head.msg) ≡ true → MovesWhatIsAfforded day before l) J

-- ---- what isn't accepted goes no further, and what is done stays done

-- a line of a message after its In line
abbrev pub is_further : Kind → Bool
is_further kinds.In = false
is_further kinds.Time = false
is_further kinds.Sweep = false
is_further kinds.End = false
is_further _ = true

-- it stands only where the message is accepted, and isn't settled, revoked or closed yet
abbrev pub OnlyAcceptedGoOn : Day → History → Type 0
OnlyAcceptedGoOn day J = EachLine (λ l before. is_further l.head.kind ≡ true → (is_accepted before l.head.msg ≡ true) × (is_done (phase day before l.head.msg) ≡ false)) J

-- ---- objections have force

-- no objection has revoked message n as a whole, nor its item (n, k)
abbrev pub IsUnrevoked : Day → History → ℕ → ℕ → Type 0
IsUnrevoked day J n k = (revoked_as (sort_of day n) day J n ≡ false) × (revoked day J n k ≡ None)

-- so it is before each line of a batch but its In line: what is revoked is neither booked nor settled whole, nothing is asked of the fund for
-- it, and it is neither covered nor refused nor ended
abbrev pub ObjectionsHaveForce : Day → History → Type 0
ObjectionsHaveForce day J = EachLine (λ l before. is_in l.head.kind ≡ false → IsUnrevoked day before l.head.msg l.head.entry) J

-- ---- a Cover line stands on a yes alone: the fund pays in it of A what isn't booked, and of B for those debtors alone that are short

-- the fund pays each debit entry of batch n that isn't booked, in order, and nothing else
abbrev pub PaysTheUnbooked : Day → History → ℕ → List Move → Type 0
PaysTheUnbooked day J n moves = moves ≡ map (cover_of day n) (debit_entries_by day n (λ k. not (is_some (booked J n k))))

-- of each debit entry of batch n, in order, the fund pays where the account holds less before the line than the batch asks of it; else the
-- account itself
abbrev pub PaysForTheShort : Day → History → ℕ → List Move → Type 0
PaysForTheShort day J n moves = (i : ℕ) (e : Entry) → slice_get (debit_entries day n) i ≡ Some e →
    (is_short_debtor day J n (debit_account day e) ≡ true → slice_get moves i ≡ Some (cover_of day n e))
    × (is_short_debtor day J n (debit_account day e) ≡ false → slice_get moves i ≡ Some (move_of day e))

abbrev pub PaysOnYes : Day → Line → History → Type 0
PaysOnYes day l J = is_cover l.head.kind ≡ true →
    (answer day J l.head.msg ≡ Some true)
    × (is_a (sort_of day l.head.msg) ≡ true → PaysTheUnbooked day J l.head.msg l.moves)
    × (is_b (sort_of day l.head.msg) ≡ true → PaysForTheShort day J l.head.msg l.moves)
    × (is_answered (phase day J l.head.msg) ≡ true)

-- where the fund has paid for a batch of A, only its credits are booked from then on
abbrev pub BooksNothingPaid : Day → Line → History → Type 0
BooksNothingPaid day l J = is_book l.head.kind ≡ true → is_a (sort_of day l.head.msg) ≡ true → is_some (covered J l.head.msg) ≡ true → is_credit day l.head.msg l.head.entry ≡ true

-- it is asked for a batch of A or B that is overdue, where its system has a fund, and before midnight
abbrev pub AsksInTime : Day → Line → History → Type 0
AsksInTime day l J = is_ask l.head.kind ≡ true →
    (is_a_or_b (sort_of day l.head.msg) ≡ true) × (is_overdue (phase day J l.head.msg) ≡ true) × (is_some (fund_of day l.head.msg) ≡ true) × (clock J < MIDNIGHT)

abbrev pub FundPaysOnYes : Day → History → Type 0
FundPaysOnYes day J = EachLine (PaysOnYes day) J × EachLine (BooksNothingPaid day) J × EachLine (AsksInTime day) J

-- ---- the order of the queue is kept

-- nothing that is pending on an account of item (n, k) stands before it there
abbrev pub IsUnblocked : Day → History → ℕ → ℕ → Type 0
IsUnblocked day J n k = (a : ℕ) → stands_on day a (item n k) ≡ true → is_blocked day J (item n k) a ≡ false

-- so it is before each Book line and each All line, and the item is pending itself
abbrev pub QueueIsInOrder : Day → History → Type 0
QueueIsInOrder day J = EachLine (λ l before. (is_book l.head.kind || is_all l.head.kind) ≡ true →
    (is_pending day before (item l.head.msg l.head.entry) ≡ true) × IsUnblocked day before l.head.msg l.head.entry) J

-- ---- sub-accounts at midnight

-- a Sweep line stands at midnight, and moves all that a sub-account holds to its owner's first dedicated cash account
abbrev pub SweepsAll : Day → Line → History → Type 0
SweepsAll day l J = is_sweep l.head.kind ≡ true →
    (clock J ≡ MIDNIGHT) × (is_sub_account day l.head.entry ≡ true)
    × (a : ℕ) × (first_dca day (owner day l.head.entry) ≡ Some a) × (l.moves ≡ record { debit = l.head.entry; credit = a; amount = balance day J l.head.entry } ∷ [])

-- in a complete journal each sub-account holds nothing
abbrev pub SubsAreEmpty : Day → History → Type 0
SubsAreEmpty day J = is_complete J ≡ true → (a : ℕ) → is_sub_account day a ≡ true → balance day J a ≡ 0

abbrev pub SubsGiveBack : Day → History → Type 0
SubsGiveBack day J = EachLine (SweepsAll day) J × SubsAreEmpty day J

-- ---- nothing ends before its time

-- the time of message n is over: the clock has reached its settlement end, which is midnight where none is stated, or of a batch of C the
-- system has ended a cycle since the batch was taken
abbrev pub IsOver : Day → History → ℕ → Type 0
IsOver day J n = (settlement_end day n ≤ clock J) ⊎ ((is_c (sort_of day n) ≡ true) × (cycle_ended day n J ≡ true))

-- so it is before each line that asks the fund for it, covers, refuses or ends it
abbrev pub EndsInItsTime : Day → History → Type 0
EndsInItsTime day J = EachLine (λ l before. (is_ask l.head.kind || is_cover l.head.kind || is_expire_or_refuse l.head.kind) ≡ true → IsOver day before l.head.msg) J

-- ---- time waits for all that can be done

-- where time passes, and where the day ends, no other want has a line
abbrev pub WaitsForAll : Day → Line → History → Type 0
WaitsForAll day l J = (is_time l.head.kind || is_end l.head.kind) ≡ true → (want : Want) → IsSome (line_of day J want) → want ≡ want_of l

-- and it passes to the next stop, over none
abbrev pub PassesToTheNextStop : Day → Line → History → Type 0
PassesToTheNextStop day l J = is_time l.head.kind ≡ true → l.head.entry ≡ next_stop day J

abbrev pub TimeWaits : Day → History → Type 0
TimeWaits day J = EachLine (WaitsForAll day) J × EachLine (PassesToTheNextStop day) J

-- ---- a message is taken when its stop is reached, with the code of the table

abbrev pub TakenAsDue : Day → History → Type 0
TakenAsDue day J = EachLine (λ l before. is_in l.head.kind ≡ true →
    (is_message (sort_of day l.head.msg) ≡ true) × (is_reached day before l.head.msg ≡ true) × (l.head.code ≡ intake_code day before l.head.msg)) J

-- ---- nothing follows the End line

abbrev pub NothingFollowsTheEnd : History → Type 0
NothingFollowsTheEnd J = EachLine (λ l before. is_ended before ≡ false) J

-- ---- the laws

pub record Laws (day : Day) (J : History) : Type 0 where
  pub never_below_zero : IsNeverBelowZero day J
  pub conserved : IsConservedThroughout day J
  pub credits_follow_debits : CreditsFollowDebits day J
  pub whole_or_nothing : IsWholeOrNothing day J
  pub nothing_is_left : NothingIsLeft day J
  pub repeats_do_nothing : RepeatsDoNothing day J
  pub entries_settle_once : EntriesSettleOnce day J
  pub messages_in_order : MessagesInOrder day J
  pub goes_on : GoesOn day J
  pub booked_at_most_once : NoneIsBookedTwice J
  pub moved_as_stated : MovedAsStated day J
  pub batches_of_d_move_in_turn : BatchesOfDMoveInTurn day J
  pub only_accepted_go_on : OnlyAcceptedGoOn day J
  pub objections_have_force : ObjectionsHaveForce day J
  pub fund_pays_on_yes : FundPaysOnYes day J
  pub queue_is_in_order : QueueIsInOrder day J
  pub subs_give_back : SubsGiveBack day J
  pub ends_in_its_time : EndsInItsTime day J
  pub time_waits : TimeWaits day J
  pub taken_as_due : TakenAsDue day J
  pub nothing_follows_the_end : NothingFollowsTheEnd J
