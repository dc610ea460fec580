-- What a line tells, as the walk puts it together: by the line's head and place, and by the facts of the lines up to it. No
-- contract of a public call says anything by these words; proofs/ToldTexts shows that they are the texts of the line's statuses.
use Rattle.std.specs.Prelude.{ℕ, zero, suc, Bool, true, false, not, ◌&&◌, ◌||◌, if◌then◌else◌, List, [], ◌∷◌, ◌++◌, Option, Some, None, nat_eq, is_some, unwrap_or, slice_get, length, filter}
use Rattle.std.specs.List.{flat_map, list_any, range_with_len}
use Rattle.cash_amounts.specs.declared.records.AccountRecord.{AccountRecord}
use Rattle.cash_amounts.specs.Tests.{some_passes}
use Rattle.number_set.specs.Members.{has}
use Rattle.batch_records.specs.DayRecord.{Day}
use Rattle.batch_records.specs.declared.day.Entry.{Entry}
use Rattle.commit_journal.specs.declared.line.Code.TheVariants as line_codes
use Rattle.commit_journal.specs.declared.line.Head.{Head}
use Rattle.commit_journal.specs.declared.line.Move.{Move}
use Rattle.commit_journal.specs.Line.{History}
use Rattle.machine.specs.Words.{same_account}
use Rattle.machine.specs.Records.Setup.{account_at, account_named, first_dca, owner}
use Rattle.machine.specs.Records.Messages.{Sort, Object, BatchA, BatchB, BatchD, BatchE, sort_of, is_e, entries, entry_numbers, info_end}
use Rattle.machine.specs.Telling.History.{is_in, is_ok, is_ask, is_expire_or_refuse}
use Rattle.machine.specs.Telling.Facts.{revoked}
use Rattle.machine.specs.Laws.{is_order}
use Rattle.machine.specs.Stages.Phases.{phase}
use Rattle.day_facts.specs.Told.{aim_of}
use Rattle.status_messages.specs.declared.status.TurnCode.TheVariants as turn_codes
use Rattle.status_messages.specs.declared.status.Status.{Status}
use Rattle.status_messages.specs.StatusTexts.{status_text}
use Rattle.status_messages.specs.Statuses.{is_revoked, is_settled, move_statuses, reply, turn_of, turn_told}
use Rattle.status_messages.specs.Telling.{texts}

-- the text, where the test holds
abbrev pub text_if : Bool → Status → List ℕ
text_if true status = status_text status
text_if false status = []

abbrev pub text_unless : Bool → List ℕ → List ℕ
text_unless true text = []
text_unless false text = text

-- ---- what the head of a line tells by itself

abbrev pub is_acceptance : Head → Bool
is_acceptance head = is_in head.kind && is_ok head.code

abbrev pub intake_text : Day → ℕ → Head → List ℕ
intake_text day place head = text_if (is_in head.kind) (turn_told day place (reply head.code) head.msg 0 head.code)

abbrev pub ask_text : Day → ℕ → Head → List ℕ
ask_text day place head = text_if (is_ask head.kind) (turn_told day place turn_codes.Askg head.msg 0 line_codes.Ok)

abbrev pub failure_text : Day → ℕ → Head → List ℕ
failure_text day place head = text_if (is_expire_or_refuse head.kind) (turn_told day place turn_codes.Fail head.msg 0 head.code)

-- ---- moves

abbrev pub move_text : Day → ℕ → Move → List ℕ
move_text day place m = texts (move_statuses day place m)

abbrev pub moves_text : Day → ℕ → List Move → List ℕ
moves_text day place moves = flat_map (move_text day place) moves

-- ---- information

-- the first cash account of whom this account belongs to
abbrev pub first_of_owner : Day → Option AccountRecord → Option ℕ
first_of_owner day None = None
first_of_owner day (Some r) = first_dca day r.owner

abbrev pub first_of : Day → Option ℕ → Option ℕ
first_of day None = None
first_of day (Some x) = first_of_owner day (account_at day x)

-- account a is the first cash account of whom the account of this name belongs to
abbrev pub leads_to : Day → ℕ → List ℕ → Bool
leads_to day a name = same_account (first_of day (account_named day name)) (Some a)

-- it is that of a bank with an account in the entry
abbrev pub is_called_by : Day → ℕ → Entry → Bool
is_called_by day a e = leads_to day a e.debit || leads_to day a e.credit

-- the same by the entry's move
abbrev pub is_called_in : Day → ℕ → Move → Bool
is_called_in day a m = same_account (first_of day (Some m.debit)) (Some a) || same_account (first_of day (Some m.credit)) (Some a)

abbrev pub is_called : Day → ℕ → ℕ → Bool
is_called day n a = list_any (is_called_by day a) (entries day n)

abbrev pub informs : Day → Head → Bool
informs day head = is_acceptance head && is_some (info_end day head.msg)

-- the bank with this first cash account is told that the line accepts a batch
abbrev pub is_informed : Day → Head → ℕ → Bool
is_informed day head a = informs day head && is_called day head.msg a

-- the numbers that are flagged
abbrev pub members : List Bool → List ℕ
members flags = filter (has flags) (range_with_len 0 (length flags))

-- that batch n was accepted, told to the bank with the first cash account a
abbrev pub information_to : Day → ℕ → ℕ → ℕ → List ℕ
information_to day place n a = status_text (turn_of day place (owner day a) turn_codes.Info n 0 line_codes.Ok)

-- the same to all banks whose first cash accounts are flagged
abbrev pub information_text : Day → ℕ → ℕ → List Bool → List ℕ
information_text day place n flags = flat_map (information_to day place n) (members flags)

-- ---- objections

-- the batch to which an accepted objection objects, or 0
abbrev pub objected_as : Sort → Day → ℕ → ℕ
objected_as Object day n = unwrap_or (aim_of day n) 0
objected_as _ day n = 0

-- the batch to which the line accepts an objection, or 0
abbrev pub objected_batch : Day → Head → ℕ
objected_batch day head = if is_acceptance head then objected_as (sort_of day head.msg) day head.msg else 0

-- of these lines, that at the place was the first to revoke entry k of batch b
abbrev pub is_revoked_by : Day → History → ℕ → ℕ → ℕ → Bool
is_revoked_by day J place b k = some_passes (nat_eq place) (revoked day J b k)

abbrev pub entry_revocation : Day → History → ℕ → ℕ → ℕ → List ℕ
entry_revocation day J place b k = text_if (is_revoked_by day J place b k) (turn_told day place turn_codes.Rvkd b k line_codes.Ok)

-- of E single entries are revoked
abbrev pub entries_of : Sort → Day → History → ℕ → ℕ → List ℕ
entries_of sort day J place b = if is_e sort then flat_map (entry_revocation day J place b) (entry_numbers day b) else []

abbrev pub entries_text : Day → History → ℕ → ℕ → List ℕ
entries_text day J place b = entries_of (sort_of day b) day J place b

-- the whole batch: of E where all its entries are revoked
abbrev pub is_whole_revoked : Sort → Day → History → ℕ → Bool
is_whole_revoked BatchA day J b = true
is_whole_revoked BatchB day J b = true
is_whole_revoked BatchE day J b = is_revoked (phase day J b)
is_whole_revoked _ day J b = false

abbrev pub batch_text : Day → History → ℕ → ℕ → List ℕ
batch_text day J place b = text_if (is_whole_revoked (sort_of day b) day J b) (turn_told day place turn_codes.Rvkd b 0 line_codes.Ok)

abbrev pub objection_text : Day → History → ℕ → ℕ → List ℕ
objection_text day J place b = entries_text day J place b ++ batch_text day J place b

-- ---- entries of D that aren't booked

-- the move at an index has the amount of the entry
abbrev pub is_moved_by : List Move → ℕ → Entry → Bool
is_moved_by moves i e = some_passes (λ m. nat_eq m.amount e.amount) (slice_get moves i)

-- The entries count on from k. Those to which no move of the same amount is left in turn.
unfoldable pub unmoved : ℕ → List Entry → List Move → List ℕ
unmoved k [] moves = []
unmoved k (e ∷ es) [] = k ∷ unmoved (suc k) es []
unmoved k (e ∷ es) (m ∷ ms) = elim (nat_eq m.amount e.amount) [ true ↦ unmoved (suc k) es ms | false ↦ k ∷ unmoved (suc k) es (m ∷ ms) ]

abbrev pub rejection : Day → ℕ → ℕ → ℕ → List ℕ
rejection day place n k = status_text (turn_told day place turn_codes.Rjct n k line_codes.Nc)

abbrev pub rejections_of : Sort → Day → ℕ → ℕ → List Move → List ℕ
rejections_of BatchD day place n moves = flat_map (rejection day place n) (unmoved 1 (entries day n) moves)
rejections_of _ day place n moves = []

abbrev pub rejections_text : Day → ℕ → Head → List Move → List ℕ
rejections_text day place head moves = if is_acceptance head then rejections_of (sort_of day head.msg) day place head.msg moves else []

-- ---- settlement

-- the one message that the line may settle
abbrev pub subject_of : ℕ → ℕ → ℕ
subject_of zero n = n
subject_of (suc b) n = suc b

-- it is settled after these lines
abbrev pub is_settled_in : Day → History → ℕ → Bool
is_settled_in day J n = is_order (sort_of day n) && is_settled (phase day J n)

abbrev pub settlement_text : Day → ℕ → ℕ → Bool → Bool → List ℕ
settlement_text day place n before after = text_if (after && not before) (turn_told day place turn_codes.Setl n 0 line_codes.Ok)

-- ---- the texts of a line in parts, after the lines up to it, and with the flags of the banks that are informed

abbrev pub opening_text : Day → ℕ → Head → List Move → List Bool → List ℕ
opening_text day place head moves flags = moves_text day place moves ++ (intake_text day place head ++ information_text day place head.msg flags)

abbrev pub ends_text : Day → ℕ → Head → List ℕ
ends_text day place head = ask_text day place head ++ failure_text day place head

abbrev pub rest_text : Day → ℕ → Head → List Move → List ℕ
rest_text day place head moves = rejections_text day place head moves ++ ends_text day place head

-- the line objects to batch b, if that isn't 0; whether its subject was settled before it
abbrev pub after_text : Day → History → ℕ → Head → List Move → ℕ → Bool → List ℕ
after_text day J place head moves b before =
    rest_text day place head moves ++ settlement_text day place (subject_of b head.msg) before (is_settled_in day J (subject_of b head.msg))

abbrev pub behind_text : Day → History → ℕ → Head → List Move → ℕ → Bool → List ℕ
behind_text day J place head moves b before = objection_text day J place b ++ after_text day J place head moves b before

abbrev pub line_text : Day → History → ℕ → Head → List Move → List Bool → ℕ → Bool → List ℕ
line_text day J place head moves flags b before = opening_text day place head moves flags ++ behind_text day J place head moves b before
