-- The fields in which a reason is told.
use Rattle.std.specs.Prelude.{ℕ, ◌+◌, List, [], ◌∷◌, decimal, codes}
use Rattle.std.specs.Option.{option_map_or}
use Rattle.cash_amounts.specs.AmountText.{amount_text}
use Rattle.period_calendar.specs.MomentTexts.{time_text}
use Rattle.batch_records.specs.DayRecord.{Day}
use Rattle.commit_journal.specs.declared.line.Want.{Want}
use Rattle.commit_journal.specs.declared.line.Want.TheVariants as wants
use Rattle.commit_journal.specs.Line.{History}
use Rattle.machine.specs.declared.answers.Phase.{Phase}
use Rattle.machine.specs.declared.answers.Phase.TheVariants as phases
use Rattle.machine.specs.declared.answers.Why.{Why}
use Rattle.machine.specs.declared.answers.Why.TheVariants as whys
use Rattle.machine.specs.Records.Setup.{account_at}
use Rattle.machine.specs.Records.Messages.{part}
use Rattle.machine.specs.Records.Reserves.{must_leave}
use Rattle.machine.specs.Making.Lines.{gross, need}

-- the name of an account; nothing where the day has none of this number
abbrev pub name_of : Day → ℕ → List ℕ
name_of day a = option_map_or (λ found. found.name) (account_at day a) []

abbrev pub phase_word : Phase → List ℕ
phase_word phases.Untaken = codes "UNTAKEN"
phase_word phases.Rejected = codes "REJECTED"
phase_word phases.Closed = codes "CLOSED"
phase_word phases.Revoked = codes "REVOKED"
phase_word phases.Settled = codes "SETTLED"
phase_word phases.Covered = codes "COVERED"
phase_word phases.Answered = codes "ANSWERED"
phase_word phases.Asking = codes "ASKING"
phase_word phases.Information = codes "INFORMATION"
phase_word phases.Waiting = codes "WAITING"
phase_word phases.Open = codes "OPEN"
phase_word phases.Overdue = codes "OVERDUE"

-- what has to stand on the account that is short: to book an item its amount and what it must leave there, to book a batch of B as a whole
-- all that it takes from the account, to let the fund pay what the batch lacks
abbrev pub needed : Day → History → Want → ℕ → ℕ
needed day J (wants.Book n k) a = option_map_or (λ e. e.amount + must_leave day n a) (part day n k) 0
needed day J (wants.All n) a = gross day n a
needed day J (wants.Cover n) a = need day J n
needed day J _ a = 0

-- a want: the kind of its line, and the message, with the entry where it is one of an item; of a sweep the sub-account
abbrev pub want_fields : Day → Want → List (List ℕ)
want_fields day (wants.In n) = codes "IN" ∷ decimal n ∷ []
want_fields day (wants.Book n k) = codes "BOOK" ∷ decimal n ∷ decimal k ∷ []
want_fields day (wants.All n) = codes "ALL" ∷ decimal n ∷ []
want_fields day wants.Time = codes "TIME" ∷ []
want_fields day (wants.Expire n) = codes "EXPIRE" ∷ decimal n ∷ []
want_fields day (wants.Ask n) = codes "ASK" ∷ decimal n ∷ []
want_fields day (wants.Cover n) = codes "COVER" ∷ decimal n ∷ []
want_fields day (wants.Refuse n) = codes "REFUSE" ∷ decimal n ∷ []
want_fields day (wants.Sweep a) = codes "SWEEP" ∷ name_of day a ∷ []
want_fields day wants.End = codes "END" ∷ []

-- of a reason that names an account which is short what has to stand there; of any other nothing
abbrev pub needed_for : Day → History → Want → Why → ℕ
needed_for day J want (whys.Short a balance) = needed day J want a
needed_for day J want _ = 0

-- a reason: its word, and what shows it; an account that is short with what it holds and what has to stand there
abbrev pub fields_with : Day → ℕ → Why → List (List ℕ)
fields_with day needed (whys.Over place) = codes "OVER" ∷ decimal place ∷ []
fields_with day needed whys.NoSuch = codes "NOSUCH" ∷ []
fields_with day needed (whys.Taken place) = codes "TAKEN" ∷ decimal place ∷ []
fields_with day needed (whys.Round round) = codes "ROUND" ∷ decimal round ∷ []
fields_with day needed (whys.Earlier n) = codes "EARLIER" ∷ decimal n ∷ []
fields_with day needed whys.Untaken = codes "UNTAKEN" ∷ []
fields_with day needed (whys.Phase phase clock) = codes "PHASE" ∷ phase_word phase ∷ time_text clock ∷ []
fields_with day needed (whys.Booked place) = codes "BOOKED" ∷ decimal place ∷ []
fields_with day needed (whys.Revoked place) = codes "REVOKED" ∷ decimal place ∷ []
fields_with day needed (whys.Covered place) = codes "COVERED" ∷ decimal place ∷ []
fields_with day needed (whys.Debits k) = codes "DEBITS" ∷ decimal k ∷ []
fields_with day needed (whys.Blocked a n k) = codes "BEHIND" ∷ name_of day a ∷ decimal n ∷ decimal k ∷ []
fields_with day needed (whys.Short a balance) = codes "SHORT" ∷ name_of day a ∷ amount_text balance ∷ amount_text needed ∷ []
fields_with day needed (whys.Fund a) = codes "FUND" ∷ name_of day a ∷ []
fields_with day needed whys.NoFund = codes "NOFUND" ∷ []
fields_with day needed whys.Answer = codes "ANSWER" ∷ []
fields_with day needed (whys.Enough balance need) = codes "ENOUGH" ∷ amount_text balance ∷ amount_text need ∷ []
fields_with day needed whys.Empty = codes "EMPTY" ∷ []
fields_with day needed (whys.Clock clock) = codes "CLOCK" ∷ time_text clock ∷ []
fields_with day needed (whys.Left n) = codes "LEFT" ∷ decimal n ∷ []
fields_with day needed (whys.Ready other) = codes "READY" ∷ want_fields day other

-- a reason why a want has no line after these lines
abbrev pub reason_fields : Day → History → Want → Why → List (List ℕ)
reason_fields day J want why = fields_with day (needed_for day J want why) why
