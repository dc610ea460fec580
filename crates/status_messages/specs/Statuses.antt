-- What the parties are told of a line: one list for each cause, in the order of the table in which they are told.
use Rattle.std.specs.Prelude.{ℕ, suc, ◌-◌, Bool, true, false, not, ◌&&◌, if◌then◌else◌, List, [], ◌∷◌, ◌++◌, Option, Some, None, nat_lt, length, filter, map, is_some}
use Rattle.std.specs.List.{list_any, flat_map}
use Rattle.std.specs.Option.{option_map_or}
use Rattle.batch_records.specs.DayRecord.{Day}
use Rattle.batch_records.specs.declared.day.Entry.{Entry}
use Rattle.commit_journal.specs.declared.line.Code.{Code}
use Rattle.commit_journal.specs.declared.line.Code.TheVariants as line_codes
use Rattle.commit_journal.specs.declared.line.Move.{Move}
use Rattle.commit_journal.specs.Line.{Line, History}
use Rattle.machine.specs.declared.answers.Phase.{Phase}
use Rattle.machine.specs.declared.answers.Phase.TheVariants as phases
use Rattle.machine.specs.Words.{same_account}
use Rattle.machine.specs.Records.Setup.{account_numbers, account_at, owner, first_dca}
use Rattle.machine.specs.Records.Messages.{Sort, BatchA, BatchB, BatchD, BatchE, sort_of, message_at, message_numbers, sender, entries, entry_numbers, info_end, technical_account}
use Rattle.machine.specs.Telling.History.{is_in, is_ask, is_expire_or_refuse}
use Rattle.machine.specs.Telling.Balances.{balance}
use Rattle.machine.specs.Telling.Facts.{takes_well, is_party}
use Rattle.machine.specs.Stages.Phases.{phase, is_revoked_entry}
use Rattle.machine.specs.Stages.Intake.{target}
use Rattle.machine.specs.Laws.{is_order}
use Rattle.status_messages.specs.declared.status.TurnCode.{TurnCode}
use Rattle.status_messages.specs.declared.status.TurnCode.TheVariants as turn_codes
use Rattle.status_messages.specs.declared.status.Status.{Status}
use Rattle.status_messages.specs.declared.status.Status.TheVariants as status

-- ---- words

-- the place of a line that is made after the history
abbrev pub place_after : History → ℕ
place_after J = suc (length J)

abbrev pub account_name : Day → ℕ → List ℕ
account_name day a = option_map_or (λ r. r.name) (account_at day a) []

abbrev pub id_of : Day → ℕ → List ℕ
id_of day n = option_map_or (λ m. m.id) (message_at day n) []

-- that message n, or with k above 0 its entry k, took a turn
abbrev pub turn_of : Day → ℕ → List ℕ → TurnCode → ℕ → ℕ → Code → Status
turn_of day place to turn n k reason = status.Turn place to turn n (sender day n) (id_of day n) k reason

-- the same, told to the message's sender
abbrev pub turn_told : Day → ℕ → TurnCode → ℕ → ℕ → Code → Status
turn_told day place turn n k reason = turn_of day place (sender day n) turn n k reason

-- that an amount left account a, or came to it, told to its owner
abbrev pub moved_on : Day → ℕ → Bool → ℕ → ℕ → Status
moved_on day place debit a amount = status.Moved place (owner day a) debit (account_name day a) amount

abbrev pub is_revoked : Phase → Bool
is_revoked phases.Revoked = true
is_revoked _ = false

abbrev pub is_settled : Phase → Bool
is_settled phases.Settled = true
is_settled _ = false

-- ---- a move: its debit, and then its credit

abbrev pub move_statuses : Day → ℕ → Move → List Status
move_statuses day place m = moved_on day place true m.debit m.amount ∷ moved_on day place false m.credit m.amount ∷ []

-- ---- an intake: the sender is told the code

abbrev pub reply : Code → TurnCode
reply line_codes.Ok = turn_codes.Acpt
reply line_codes.Du = turn_codes.Dupl
reply _ = turn_codes.Rjct

abbrev pub intake_statuses : Day → History → Line → List Status
intake_statuses day J l =
    if is_in l.head.kind then (turn_told day (place_after J) (reply l.head.code) l.head.msg 0 l.head.code ∷ []) else []

-- ---- an accepted batch with an information end: each bank that owns an account of an entry is told

abbrev pub is_first_dca : Day → ℕ → Bool
is_first_dca day a = same_account (first_dca day (owner day a)) (Some a)

-- the banks, in the order of their first cash accounts
abbrev pub banks : Day → List (List ℕ)
banks day = map (owner day) (filter (is_first_dca day) (account_numbers day))

abbrev pub is_party_of : Day → ℕ → List ℕ → Bool
is_party_of day n bank = list_any (is_party day bank) (entries day n)

abbrev pub information_statuses : Day → History → Line → List Status
information_statuses day J l =
    if takes_well l && is_some (info_end day l.head.msg)
    then map (λ bank. turn_of day (place_after J) bank turn_codes.Info l.head.msg 0 line_codes.Ok) (filter (is_party_of day l.head.msg) (banks day))
    else []

-- ---- an accepted objection: the system is told what is revoked

abbrev pub revocation : Day → History → ℕ → ℕ → Status
revocation day J b k = turn_told day (place_after J) turn_codes.Rvkd b k line_codes.Ok

-- the line revokes entry k of batch b, and no line before it did
abbrev pub is_revoked_now : Day → History → Line → ℕ → ℕ → Bool
is_revoked_now day J l b k = is_revoked_entry day (l ∷ J) b k && not (is_revoked_entry day J b k)

abbrev pub whole_revocation : Day → History → Line → ℕ → List Status
whole_revocation day J l b = if is_revoked (phase day (l ∷ J) b) then (revocation day J b 0 ∷ []) else []

abbrev pub revocations_as : Sort → Day → History → Line → ℕ → List Status
revocations_as BatchA day J l b = revocation day J b 0 ∷ []
revocations_as BatchB day J l b = revocation day J b 0 ∷ []
revocations_as BatchE day J l b =
    map (revocation day J b) (filter (is_revoked_now day J l b) (entry_numbers day b)) ++ whole_revocation day J l b
revocations_as _ day J l b = []

abbrev pub revocations_of : Day → History → Line → Option ℕ → List Status
revocations_of day J l None = []
revocations_of day J l (Some b) = revocations_as (sort_of day b) day J l b

-- the batch that message n objects to
abbrev pub objection_target : Sort → Day → History → ℕ → Option ℕ
objection_target Sort.Object day J n = target day J n
objection_target _ day J n = None

abbrev pub objection_statuses : Day → History → Line → List Status
objection_statuses day J l =
    if takes_well l then revocations_of day J l (objection_target (sort_of day l.head.msg) day J l.head.msg) else []

-- ---- an accepted batch of procedure D: the system is told which entries aren't booked

-- The entries count on from k. Of them, the numbers of those that the balance doesn't cover, less those before that it covers.
unfoldable pub unafforded_in_order : ℕ → ℕ → List Entry → List ℕ
unafforded_in_order available k [] = []
unafforded_in_order available k (e ∷ es) =
    elim (nat_lt available e.amount) [ true ↦ k ∷ unafforded_in_order available (suc k) es | false ↦ unafforded_in_order (available - e.amount) (suc k) es ]

abbrev pub rejections_as : Sort → Day → History → ℕ → List Status
rejections_as BatchD day J n =
    map (λ k. turn_told day (place_after J) turn_codes.Rjct n k line_codes.Nc) (unafforded_in_order (balance day J (technical_account day n)) 1 (entries day n))
rejections_as _ day J n = []

abbrev pub rejection_statuses : Day → History → Line → List Status
rejection_statuses day J l = if takes_well l then rejections_as (sort_of day l.head.msg) day J l.head.msg else []

-- ---- the system is asked for its guarantee fund

abbrev pub ask_statuses : Day → History → Line → List Status
ask_statuses day J l =
    if is_ask l.head.kind then (turn_told day (place_after J) turn_codes.Askg l.head.msg 0 line_codes.Ok ∷ []) else []

-- ---- a message ends unsettled

abbrev pub failure_statuses : Day → History → Line → List Status
failure_statuses day J l =
    if is_expire_or_refuse l.head.kind then (turn_told day (place_after J) turn_codes.Fail l.head.msg 0 l.head.code ∷ []) else []

-- ---- a payment or a batch is settled after the line, and wasn't before

abbrev pub is_settled_now : Day → History → Line → ℕ → Bool
is_settled_now day J l n = is_order (sort_of day n) && is_settled (phase day (l ∷ J) n) && not (is_settled (phase day J n))

abbrev pub settlement_statuses : Day → History → Line → List Status
settlement_statuses day J l =
    map (λ n. turn_told day (place_after J) turn_codes.Setl n 0 line_codes.Ok) (filter (is_settled_now day J l) (message_numbers day))

-- ---- those of a line that is made after the history

unfoldable pub statuses : Day → History → Line → List Status
statuses day J l =
    flat_map (move_statuses day (place_after J)) l.moves
    ++ intake_statuses day J l
    ++ information_statuses day J l
    ++ objection_statuses day J l
    ++ rejection_statuses day J l
    ++ ask_statuses day J l
    ++ failure_statuses day J l
    ++ settlement_statuses day J l

-- those of all lines, in the order of the lines
unfoldable pub all_statuses : Day → History → List Status
all_statuses day [] = []
all_statuses day (l ∷ J) = all_statuses day J ++ statuses day J l
