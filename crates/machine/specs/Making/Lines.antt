-- The machine: the line that a want has after a history, or none. Each sort of line has its condition and its moves.
use Rattle.std.specs.Prelude.{ℕ, zero, suc, min, ◌||◌, Bool, true, false, not, ◌&&◌, if◌then◌else◌, List, [], ◌∷◌, ◌++◌, ◌+◌, Option, Some, None, nat_eq, nat_lt, nat_le, filter, map, fold, sum_by, is_some, is_none, unwrap_or}
use Rattle.std.specs.List.{list_all, list_any, enumerate_from}
use Rattle.period_calendar.specs.declared.time.TheConstants.{MIDNIGHT}
use Rattle.batch_records.specs.DayRecord.{Day}
use Rattle.batch_records.specs.declared.day.Entry.{Entry}
use Rattle.commit_journal.specs.declared.line.Move.{Move}
use Rattle.commit_journal.specs.declared.line.Kind.{Kind}
use Rattle.commit_journal.specs.declared.line.Kind.TheVariants as kinds
use Rattle.commit_journal.specs.declared.line.Code.{Code}
use Rattle.commit_journal.specs.declared.line.Code.TheVariants as line_codes
use Rattle.commit_journal.specs.declared.line.Want.{Want}
use Rattle.commit_journal.specs.declared.line.Want.TheVariants as wants
use Rattle.commit_journal.specs.Line.{Line, History}
use Rattle.machine.specs.declared.answers.Item.{Item}
use Rattle.machine.specs.declared.answers.Phase.{Phase}
use Rattle.machine.specs.declared.answers.Phase.TheVariants as phases
use Rattle.machine.specs.Words.{first_some, some_passes, when}
use Rattle.machine.specs.Records.Setup.{account_numbers, owner, is_sub_account, first_dca}
use Rattle.machine.specs.Records.Messages.{Sort, Pay, BatchA, BatchB, BatchC, BatchE, sort_of, is_message, is_b, is_a_or_b, message_numbers, item_numbers, entries, part, info_end, earliest, settlement_end, is_debit_entry, debit_entries, credit_entries, debit_account, move_of, technical_account, fund_of, fund_account, is_batch}
use Rattle.machine.specs.Records.Reserves.{must_leave}
use Rattle.machine.specs.Telling.History.{taken, is_ended, clock, is_accepted}
use Rattle.machine.specs.Telling.Balances.{balance}
use Rattle.machine.specs.Telling.Facts.{is_reached, untaken_earlier, answer, cycle_ended}
use Rattle.machine.specs.Stages.Phases.{phase, is_overdue, is_answered, is_asking, is_booked}
use Rattle.machine.specs.Stages.Intake.{intake_code, intake_moves, amount_of}
use Rattle.machine.specs.Stages.Pending.{item, is_pending, debtors, is_blocked}

abbrev pub line : Kind → ℕ → ℕ → Code → List Move → Line
line kind msg entry code moves = record { head = record { kind = kind; msg = msg; entry = entry; code = code }; moves = moves }

-- ---- In

abbrev pub may_take : Day → History → ℕ → Bool
may_take day J n = is_message (sort_of day n) && is_none (taken J n) && is_reached day J n && is_none (untaken_earlier day J n)

abbrev pub in_line : Day → History → ℕ → Line
in_line day J n = line kinds.In n 0 (intake_code day J n) (intake_moves day J n (intake_code day J n))

-- ---- Book

abbrev pub moves_of_part : Day → Option Entry → List Move
moves_of_part day None = []
moves_of_part day (Some e) = move_of day e ∷ []

-- the debit account of a part of message n has its amount and what it must leave there
abbrev pub is_covered_part : Day → History → ℕ → Entry → Bool
is_covered_part day J n e = nat_le (e.amount + must_leave day n (debit_account day e)) (balance day J (debit_account day e))

abbrev pub is_free_part : Day → History → Item → Entry → Bool
is_free_part day J x e = not (is_blocked day J x (debit_account day e))

abbrev pub may_book : Day → History → ℕ → ℕ → Bool
may_book day J n k =
    is_pending day J (item n k) && not (is_b (sort_of day n))
    && some_passes (λ e. is_free_part day J (item n k) e && is_covered_part day J n e) (part day n k)

abbrev pub book_line : Day → ℕ → ℕ → Line
book_line day n k = line kinds.Book n k line_codes.Ok (moves_of_part day (part day n k))

-- ---- All

-- what batch n asks of the account
abbrev pub gross : Day → ℕ → ℕ → ℕ
gross day n a = sum_by amount_of (filter (λ e. nat_eq (debit_account day e) a) (debit_entries day n))

abbrev pub is_short_debtor : Day → History → ℕ → ℕ → Bool
is_short_debtor day J n a = nat_lt (balance day J a) (gross day n a)

abbrev pub may_settle_whole : Day → History → ℕ → Bool
may_settle_whole day J n =
    is_b (sort_of day n) && is_pending day J (item n 0)
    && list_all (λ a. not (is_blocked day J (item n 0) a)) (debtors day n)
    && list_all (λ a. not (is_short_debtor day J n a)) (debtors day n)

-- each debit entry and then each credit entry
abbrev pub all_line : Day → ℕ → Line
all_line day n = line kinds.All n 0 line_codes.Ok (map (move_of day) (debit_entries day n) ++ map (move_of day) (credit_entries day n))

-- ---- Ask, Expire

abbrev pub may_ask : Day → History → ℕ → Bool
may_ask day J n =
    is_a_or_b (sort_of day n) && is_overdue (phase day J n) && is_some (fund_of day n) && nat_lt (clock J) MIDNIGHT

abbrev pub ask_line : ℕ → Line
ask_line n = line kinds.Ask n 0 line_codes.Ok []

-- entry k of a batch with its number
abbrev pub counted_entries : Day → ℕ → List (ℕ × Entry)
counted_entries day n = enumerate_from 1 (entries day n)

abbrev pub debit_entries_by : Day → ℕ → (ℕ → Bool) → List Entry
debit_entries_by day n test = map (λ (x : ℕ × Entry). x.1) (filter (λ (x : ℕ × Entry). is_debit_entry day n x.1 && test x.0) (counted_entries day n))

-- back from the technical account to the debit account
abbrev pub return_of : Day → ℕ → Entry → Move
return_of day n e = record { debit = technical_account day n; credit = debit_account day e; amount = e.amount }

abbrev pub reversal : Sort → Day → History → ℕ → List Move
reversal BatchA day J n = map (return_of day n) (debit_entries_by day n (is_booked J n))
reversal _ day J n = []

abbrev pub expiry_code : Sort → Day → History → ℕ → Code
expiry_code BatchC day J n = if cycle_ended day n J then line_codes.Ce else line_codes.Ed
expiry_code Pay day J n = line_codes.Ed
expiry_code _ day J n = line_codes.Pe

-- a payment, or a batch of A, B, C or E
abbrev pub may_lapse : Sort → Bool
may_lapse Pay = true
may_lapse BatchA = true
may_lapse BatchB = true
may_lapse BatchC = true
may_lapse BatchE = true
may_lapse _ = false

abbrev pub may_expire : Day → History → ℕ → Bool
may_expire day J n = may_lapse (sort_of day n) && is_overdue (phase day J n) && not (may_ask day J n)

abbrev pub expire_line : Day → History → ℕ → Line
expire_line day J n = line kinds.Expire n 0 (expiry_code (sort_of day n) day J n) (reversal (sort_of day n) day J n)

-- ---- Cover, Refuse

-- what the fund has to pay: of an A batch the unbooked debit entries, of a B batch the debit entries of short debtor accounts
abbrev pub need_as : Sort → Day → History → ℕ → ℕ
need_as BatchA day J n = sum_by amount_of (debit_entries_by day n (λ k. not (is_booked J n k)))
need_as BatchB day J n = sum_by amount_of (filter (λ e. is_short_debtor day J n (debit_account day e)) (debit_entries day n))
need_as _ day J n = 0

abbrev pub need : Day → History → ℕ → ℕ
need day J n = need_as (sort_of day n) day J n

abbrev pub fund_suffices : Day → History → ℕ → Bool
fund_suffices day J n = nat_le (need day J n) (balance day J (fund_account day n))

-- an A or B batch whose accepted answer is Y, or N
abbrev pub is_answered_yes : Day → History → ℕ → Bool
is_answered_yes day J n = is_a_or_b (sort_of day n) && is_answered (phase day J n) && unwrap_or (answer day J n) false

abbrev pub is_answered_no : Day → History → ℕ → Bool
is_answered_no day J n = is_a_or_b (sort_of day n) && is_answered (phase day J n) && not (unwrap_or (answer day J n) false)

-- an A or B batch that is asking at midnight
abbrev pub is_unanswered : Day → History → ℕ → Bool
is_unanswered day J n = is_a_or_b (sort_of day n) && is_asking (phase day J n) && nat_eq (clock J) MIDNIGHT

-- from the fund to the technical account, in place of the debit account
abbrev pub cover_of : Day → ℕ → Entry → Move
cover_of day n e = record { debit = fund_account day n; credit = technical_account day n; amount = e.amount }

abbrev pub covered_debit : Day → History → ℕ → Entry → Move
covered_debit day J n e = if is_short_debtor day J n (debit_account day e) then cover_of day n e else move_of day e

abbrev pub cover_moves : Sort → Day → History → ℕ → List Move
cover_moves BatchA day J n = map (cover_of day n) (debit_entries_by day n (λ k. not (is_booked J n k)))
cover_moves BatchB day J n = map (covered_debit day J n) (debit_entries day n) ++ map (move_of day) (credit_entries day n)
cover_moves _ day J n = []

abbrev pub may_cover : Day → History → ℕ → Bool
may_cover day J n = is_answered_yes day J n && fund_suffices day J n

abbrev pub cover_line : Day → History → ℕ → Line
cover_line day J n = line kinds.Cover n 0 line_codes.Ok (cover_moves (sort_of day n) day J n)

-- the code with which a batch is refused, or none
abbrev pub refusal : Day → History → ℕ → Option Code
refusal day J n = first_some (
    when (is_answered_no day J n) line_codes.Gn
    ∷ when (is_answered_yes day J n && not (fund_suffices day J n)) line_codes.Gs
    ∷ when (is_unanswered day J n) line_codes.Ge
    ∷ [])

abbrev pub may_refuse : Day → History → ℕ → Bool
may_refuse day J n = is_some (refusal day J n)

-- made only where there is a refusal, so the code that stands in for none never shows
abbrev pub refuse_line : Day → History → ℕ → Line
refuse_line day J n = line kinds.Refuse n 0 (unwrap_or (refusal day J n) line_codes.Ge) (reversal (sort_of day n) day J n)

-- ---- Sweep

abbrev pub may_sweep : Day → History → ℕ → Bool
may_sweep day J a = is_sub_account day a && nat_eq (clock J) MIDNIGHT && nat_lt 0 (balance day J a)

abbrev pub sweep_move : Day → History → ℕ → Move
sweep_move day J a = record { debit = a; credit = unwrap_or (first_dca day (owner day a)) 0; amount = balance day J a }

abbrev pub sweep_line : Day → History → ℕ → Line
sweep_line day J a = line kinds.Sweep 0 a line_codes.Ok (sweep_move day J a ∷ [])

-- ---- ready

-- the want of a message in its phase: the only one of item 0 that can have a line
abbrev pub message_want : Day → History → ℕ → Phase → Want
message_want day J n phases.Overdue = if may_ask day J n then wants.Ask n else wants.Expire n
message_want day J n phases.Answered = if may_cover day J n then wants.Cover n else wants.Refuse n
message_want day J n phases.Asking = wants.Refuse n
message_want day J n _ = if is_b (sort_of day n) then wants.All n else wants.Book n 0

-- the want of an item
abbrev pub item_want : Day → History → ℕ → ℕ → Want
item_want day J n zero = message_want day J n (phase day J n)
item_want day J n (suc k) = wants.Book n (suc k)

-- the conditions of the wants that items have
abbrev pub may_item : Day → History → Want → Bool
may_item day J (wants.Book n k) = may_book day J n k
may_item day J (wants.All n) = may_settle_whole day J n
may_item day J (wants.Expire n) = may_expire day J n
may_item day J (wants.Ask n) = may_ask day J n
may_item day J (wants.Cover n) = may_cover day J n
may_item day J (wants.Refuse n) = may_refuse day J n
may_item day J _ = false

-- the want of item (n, k) has a line
unfoldable pub is_ready_item : Day → History → ℕ → ℕ → Bool
is_ready_item day J n k = may_item day J (item_want day J n k)

unfoldable pub is_ready_message : Day → History → ℕ → Bool
is_ready_message day J n = list_any (is_ready_item day J n) (item_numbers day n)

-- an item has a line, or the sweep of a sub-account
unfoldable pub is_ready : Day → History → Bool
is_ready day J = list_any (is_ready_message day J) (message_numbers day) || list_any (may_sweep day J) (account_numbers day)

-- ---- Time, End

-- the lesser of a time and one that is above the clock
abbrev pub lesser : History → ℕ → ℕ → ℕ
lesser J least time = if nat_lt (clock J) time then min least time else least

-- with the times that an accepted batch states: its information end, its earliest time and its settlement end
abbrev pub lesser_end : Day → History → ℕ → ℕ → ℕ
lesser_end day J least n =
    if is_batch (sort_of day n) && is_accepted J n
    then lesser J (lesser J (lesser J least (unwrap_or (info_end day n) MIDNIGHT)) (unwrap_or (earliest day n) MIDNIGHT)) (settlement_end day n)
    else least

-- the least stop above the clock: a stated one, a time of an accepted batch, or midnight
unfoldable pub next_stop : Day → History → ℕ
next_stop day J = fold (lesser_end day J) (fold (lesser J) MIDNIGHT day.stops) (message_numbers day)

-- no message of the rounds reached is left to take
unfoldable pub all_taken : Day → History → Bool
all_taken day J = list_all (λ i. not (is_reached day J i) || is_some (taken J i)) (message_numbers day)

abbrev pub may_pass : Day → History → Bool
may_pass day J = nat_lt (clock J) MIDNIGHT && all_taken day J && not (is_ready day J)

abbrev pub time_line : Day → History → Line
time_line day J = line kinds.Time 0 (next_stop day J) line_codes.Ok []

abbrev pub may_end : Day → History → Bool
may_end day J = nat_eq (clock J) MIDNIGHT && not (is_ready day J)

abbrev pub end_line : Line
end_line = line kinds.End 0 0 line_codes.Ok []

-- ---- the line of a want

-- what has to hold for a line to be made, besides that the End line doesn't stand
abbrev pub may : Day → History → Want → Bool
may day J (wants.In n) = may_take day J n
may day J (wants.Book n k) = may_book day J n k
may day J (wants.All n) = may_settle_whole day J n
may day J wants.Time = may_pass day J
may day J (wants.Expire n) = may_expire day J n
may day J (wants.Ask n) = may_ask day J n
may day J (wants.Cover n) = may_cover day J n
may day J (wants.Refuse n) = may_refuse day J n
may day J (wants.Sweep a) = may_sweep day J a
may day J wants.End = may_end day J

-- the line that is made where it may be
abbrev pub made : Day → History → Want → Line
made day J (wants.In n) = in_line day J n
made day J (wants.Book n k) = book_line day n k
made day J (wants.All n) = all_line day n
made day J wants.Time = time_line day J
made day J (wants.Expire n) = expire_line day J n
made day J (wants.Ask n) = ask_line n
made day J (wants.Cover n) = cover_line day J n
made day J (wants.Refuse n) = refuse_line day J n
made day J (wants.Sweep a) = sweep_line day J a
made day J wants.End = end_line

abbrev pub line_if : Bool → Line → Option Line
line_if true l = Some l
line_if false l = None

unfoldable pub line_of : Day → History → Want → Option Line
line_of day J want = line_if (not (is_ended J) && may day J want) (made day J want)
