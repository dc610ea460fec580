-- The view of a party: what it knows by the statuses that it took, the newest first.
use Rattle.std.specs.Prelude.{ℕ, suc, ◌+◌, ◌-◌, Bool, true, false, if◌then◌else◌, List, [], ◌∷◌, Option, Some, None, Result, Ok, Err, nat_eq, nat_lt, length}
use Rattle.std.specs.Option.{option_and_then}
use Rattle.cash_amounts.specs.declared.cents.TheConstants.{MAX_CENTS}
use Rattle.outside_io.specs.TextLine.{line_feed}
use Rattle.batch_records.specs.DayRecord.{Day}
use Rattle.machine.specs.Words.{same_name, when}
use Rattle.machine.specs.Records.Setup.{account_named, opening, owner}
use Rattle.status_messages.specs.declared.status.Status.{Status}
use Rattle.status_messages.specs.declared.status.Status.TheVariants as status
use Rattle.status_messages.specs.StatusGrammar.{most_told, read_status}
use Rattle.status_messages.specs.Statuses.{account_name}
use Rattle.as_client.specs.declared.view.ViewFault.{ViewFault}
use Rattle.as_client.specs.declared.view.ViewFault.TheVariants as view_faults
use Rattle.as_client.specs.PartyWords.{word_of}
use Rattle.as_client.specs.Reports.{report}

-- ---- who is told

abbrev pub addressee : Status → List ℕ
addressee (status.Turn place to turn msg from id entry reason) = to
addressee (status.Moved place to debit account amount) = to

abbrev pub is_addressed : List ℕ → Status → Bool
is_addressed name s = same_name (addressee s) name

-- ---- balances

-- what a status brings to the account of this name, and takes from it
abbrev pub brought : List ℕ → Status → ℕ
brought name (status.Moved place to false account amount) = if same_name account name then amount else 0
brought name _ = 0

abbrev pub took : List ℕ → Status → ℕ
took name (status.Moved place to true account amount) = if same_name account name then amount else 0
took name _ = 0

unfoldable pub brought_by : List Status → List ℕ → ℕ
brought_by [] name = 0
brought_by (s ∷ ss) name = brought_by ss name + brought name s

unfoldable pub taken_by : List Status → List ℕ → ℕ
taken_by [] name = 0
taken_by (s ∷ ss) name = taken_by ss name + took name s

-- the opening with the moves taken
abbrev pub holding : Day → List Status → ℕ → ℕ
holding day ss a = (opening day a + brought_by ss (account_name day a)) - taken_by ss (account_name day a)

-- ---- what a view refuses

-- the account of this name, where the party owns it
abbrev pub own_account : Day → List ℕ → List ℕ → Option ℕ
own_account day name account = option_and_then (λ a. when (same_name (owner day a) name) a) (account_named day account)

-- a debit above the balance, or a credit past what an account may hold
abbrev pub move_fault : Bool → ℕ → ℕ → Option ViewFault
move_fault true balance amount = when (nat_lt balance amount) (view_faults.Short balance)
move_fault false balance amount = when (nat_lt MAX_CENTS (balance + amount)) (view_faults.Past balance)

abbrev pub fault_on : Day → List Status → Bool → ℕ → Option ℕ → Option ViewFault
fault_on day ss debit amount None = Some view_faults.Account
fault_on day ss debit amount (Some a) = move_fault debit (holding day ss a) amount

-- why the view of the party, which took these statuses, refuses a status
unfoldable pub view_fault : Day → List ℕ → List Status → Status → Option ViewFault
view_fault day name ss (status.Moved place to debit account amount) = fault_on day ss debit amount (own_account day name account)
view_fault day name ss (status.Turn place to turn msg from id entry reason) = None

-- ---- the statuses that a party takes

abbrev pub report_of : Day → List ℕ → List Status → List ℕ
report_of day name ss = report day name (holding day ss) (word_of ss) (length ss)

-- ---- a text's lines: the bytes before each end of a line, and a last line that has none

abbrev pub onto_line : ℕ → List (List ℕ) → List (List ℕ)
onto_line b [] = (b ∷ []) ∷ []
onto_line b (line ∷ lines) = (b ∷ line) ∷ lines

abbrev pub before_lines : ℕ → List (List ℕ) → List (List ℕ)
before_lines b lines = if nat_eq b line_feed then ([] ∷ lines) else onto_line b lines

unfoldable pub text_lines : List ℕ → List (List ℕ)
text_lines [] = []
text_lines (b ∷ bytes) = before_lines b (text_lines bytes)

-- ---- the view over lines

abbrev pub if_addressed : List ℕ → Option Status → Option Status
if_addressed name None = None
if_addressed name (Some s) = when (is_addressed name s) s

-- the status of a line that is one of no message above `most`, addressed to the party
abbrev pub addressed : ℕ → List ℕ → List ℕ → Option Status
addressed most name line = if_addressed name (read_status most line)

-- What the party has taken after these lines, the first of them of number k, or the number of the first status that it refuses. A
-- status of a day of version 3 is of one of the messages that such a day can have.
unfoldable pub take_lines : Day → List ℕ → ℕ → List Status → List (List ℕ) → Result (List Status) ℕ
take_lines day name k ss [] = Ok ss
take_lines day name k ss (line ∷ lines) = elim (addressed (most_told day.version) name line) [
  | None ↦ take_lines day name (suc k) ss lines
  | Some s ↦ elim (view_fault day name ss s) [
    | None ↦ take_lines day name (suc k) (s ∷ ss) lines
    | Some fault ↦ Err k
  ]
]

abbrev pub report_taken : Day → List ℕ → Result (List Status) ℕ → Result (List ℕ) ℕ
report_taken day name (Ok ss) = Ok (report_of day name ss)
report_taken day name (Err k) = Err k

-- the report of the party over the lines, or the number of the first status that it refuses
unfoldable pub view : Day → List (List ℕ) → List ℕ → Result (List ℕ) ℕ
view day lines name = report_taken day name (take_lines day name 1 [] lines)
