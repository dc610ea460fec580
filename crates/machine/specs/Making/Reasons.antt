-- Why a want has no line: the first condition that isn't met, with the value that shows it.
use Rattle.std.specs.Prelude.{ℕ, ◌+◌, Bool, false, not, ◌&&◌, ◌||◌, List, [], ◌∷◌, Option, Some, None, nat_eq, nat_lt, nat_le, option_map, is_some, is_none}
use Rattle.std.specs.List.{find}
use Rattle.period_calendar.specs.declared.time.TheConstants.{MIDNIGHT}
use Rattle.batch_records.specs.DayRecord.{Day}
use Rattle.batch_records.specs.declared.day.Entry.{Entry}
use Rattle.commit_journal.specs.declared.line.Want.{Want}
use Rattle.commit_journal.specs.declared.line.Want.TheVariants as wants
use Rattle.commit_journal.specs.Line.{History}
use Rattle.machine.specs.declared.answers.Item.{Item}
use Rattle.machine.specs.declared.answers.Phase.{Phase}
use Rattle.machine.specs.declared.answers.Why.{Why}
use Rattle.machine.specs.declared.answers.Why.TheVariants as whys
use Rattle.machine.specs.Words.{first_some, only_if, when, unless, is_zero}
use Rattle.machine.specs.Records.Setup.{is_sub_account}
use Rattle.machine.specs.Records.Messages.{Sort, Pay, BatchA, BatchC, BatchE, sort_of, is_message, is_a, is_b, is_e, is_a_or_b, part, round_of, is_debit, is_credit, debit_account, fund_of, fund_account}
use Rattle.machine.specs.Records.Reserves.{must_leave}
use Rattle.machine.specs.Telling.History.{taken, booked, covered, ended, clock}
use Rattle.machine.specs.Telling.Balances.{balance}
use Rattle.machine.specs.Telling.Facts.{is_reached, untaken_earlier, untaken_reached, revoked}
use Rattle.machine.specs.Stages.Phases.{phase, is_open, is_covered, is_overdue, is_answered, is_asking}
use Rattle.machine.specs.Stages.Pending.{item, debtors, is_blocked, first_unbooked_debit}
use Rattle.machine.specs.Stages.Blockers.{first_blocker}
use Rattle.machine.specs.Making.Lines.{is_covered_part, is_short_debtor, may_ask, may_lapse, need, fund_suffices, is_answered_yes}
use Rattle.machine.specs.Making.FirstReady.{first_ready}

-- ---- the reasons that several wants have

abbrev pub over : History → Option Why
over J = option_map whys.Over (ended J)

abbrev pub untaken : History → ℕ → Option Why
untaken J n = when (is_none (taken J n)) whys.Untaken

-- the phase, where it is none of those that pass
abbrev pub other_phase : Day → History → ℕ → Bool → Option Why
other_phase day J n passes = unless passes (whys.Phase (phase day J n) (clock J))

abbrev pub blocked_by : ℕ → Item → Why
blocked_by a x = whys.Blocked a x.msg x.entry

abbrev pub blocked : Day → History → Item → ℕ → Option Why
blocked day J x a = option_map (blocked_by a) (first_blocker day J x a)

abbrev pub short : Day → History → ℕ → Why
short day J a = whys.Short a (balance day J a)

-- ---- In

unfoldable pub why_not_in : Day → History → ℕ → Option Why
why_not_in day J n = first_some (
    over J
    ∷ unless (is_message (sort_of day n)) whys.NoSuch
    ∷ option_map whys.Taken (taken J n)
    ∷ unless (is_reached day J n) (whys.Round (round_of day n))
    ∷ option_map whys.Earlier (untaken_earlier day J n)
    ∷ [])

-- ---- Book

-- whether item (n, k) is one that is booked: a payment, or an entry of an A, C or E batch
abbrev pub books : Sort → ℕ → Bool
books Pay k = is_zero k
books BatchA k = not (is_zero k)
books BatchC k = not (is_zero k)
books BatchE k = not (is_zero k)
books _ k = false

abbrev pub is_bookable : Day → ℕ → ℕ → Bool
is_bookable day n k = is_some (part day n k) && books (sort_of day n) k

abbrev pub is_open_or_covered : Phase → Bool
is_open_or_covered p = is_open p || is_covered p

-- an entry of an E batch that an objection revoked
abbrev pub revoked_part : Day → History → ℕ → ℕ → Option ℕ
revoked_part day J n k = only_if (is_e (sort_of day n)) (revoked day J n k)

-- a debit entry of an A batch that the Cover line paid
abbrev pub paid_by_cover : Day → History → ℕ → ℕ → Option ℕ
paid_by_cover day J n k = only_if (is_a (sort_of day n) && is_debit day n k) (covered J n)

-- a credit entry of an open A batch, while a debit entry is unbooked
abbrev pub debit_outstanding : Day → History → ℕ → ℕ → Option ℕ
debit_outstanding day J n k = only_if (is_a (sort_of day n) && is_open (phase day J n) && is_credit day n k) (first_unbooked_debit day J n)

-- what keeps a pending item of this amount from being booked on the account: an item before it, or that the account doesn't have the
-- amount and what the item must leave there
unfoldable pub why_waits : Day → History → Item → ℕ → ℕ → Option Why
why_waits day J x a amount = first_some (
    blocked day J x a
    ∷ unless (nat_le (amount + must_leave day x.msg a) (balance day J a)) (short day J a)
    ∷ [])

abbrev pub blocked_part : Day → History → Item → Option Entry → Option Why
blocked_part day J x None = None
blocked_part day J x (Some e) = blocked day J x (debit_account day e)

abbrev pub short_part : Day → History → ℕ → Option Entry → Option Why
short_part day J n None = None
short_part day J n (Some e) = unless (is_covered_part day J n e) (short day J (debit_account day e))

unfoldable pub why_not_book : Day → History → ℕ → ℕ → Option Why
why_not_book day J n k = first_some (
    over J
    ∷ unless (is_bookable day n k) whys.NoSuch
    ∷ untaken J n
    ∷ other_phase day J n (is_open_or_covered (phase day J n))
    ∷ option_map whys.Booked (booked J n k)
    ∷ option_map whys.Revoked (revoked_part day J n k)
    ∷ option_map whys.Covered (paid_by_cover day J n k)
    ∷ option_map whys.Debits (debit_outstanding day J n k)
    ∷ blocked_part day J (item n k) (part day n k)
    ∷ short_part day J n (part day n k)
    ∷ [])

-- ---- All

abbrev pub blocked_at : Day → History → Item → Option ℕ → Option Why
blocked_at day J x None = None
blocked_at day J x (Some a) = blocked day J x a

-- the first blocker on the first debtor account that has one
abbrev pub blocked_on : Day → History → Item → List ℕ → Option Why
blocked_on day J x accounts = blocked_at day J x (find (is_blocked day J x) accounts)

unfoldable pub why_not_all : Day → History → ℕ → Option Why
why_not_all day J n = first_some (
    over J
    ∷ unless (is_b (sort_of day n)) whys.NoSuch
    ∷ untaken J n
    ∷ other_phase day J n (is_open (phase day J n))
    ∷ blocked_on day J (item n 0) (debtors day n)
    ∷ option_map (short day J) (find (is_short_debtor day J n) (debtors day n))
    ∷ [])

-- ---- Expire, Ask

unfoldable pub why_not_expire : Day → History → ℕ → Option Why
why_not_expire day J n = first_some (
    over J
    ∷ unless (may_lapse (sort_of day n)) whys.NoSuch
    ∷ untaken J n
    ∷ other_phase day J n (is_overdue (phase day J n))
    ∷ when (may_ask day J n) (whys.Fund (fund_account day n))
    ∷ [])

unfoldable pub why_not_ask : Day → History → ℕ → Option Why
why_not_ask day J n = first_some (
    over J
    ∷ unless (is_a_or_b (sort_of day n)) whys.NoSuch
    ∷ untaken J n
    ∷ other_phase day J n (is_overdue (phase day J n))
    ∷ unless (is_some (fund_of day n)) whys.NoFund
    ∷ unless (nat_lt (clock J) MIDNIGHT) (whys.Clock (clock J))
    ∷ [])

-- ---- Cover, Refuse

unfoldable pub why_not_cover : Day → History → ℕ → Option Why
why_not_cover day J n = first_some (
    over J
    ∷ unless (is_a_or_b (sort_of day n)) whys.NoSuch
    ∷ untaken J n
    ∷ other_phase day J n (is_answered (phase day J n))
    ∷ unless (is_answered_yes day J n) whys.Answer
    ∷ unless (fund_suffices day J n) (short day J (fund_account day n))
    ∷ [])

unfoldable pub why_not_refuse : Day → History → ℕ → Option Why
why_not_refuse day J n = first_some (
    over J
    ∷ unless (is_a_or_b (sort_of day n)) whys.NoSuch
    ∷ untaken J n
    ∷ other_phase day J n (is_answered (phase day J n) || is_asking (phase day J n) && nat_eq (clock J) MIDNIGHT)
    ∷ when (is_answered_yes day J n && fund_suffices day J n) (whys.Enough (balance day J (fund_account day n)) (need day J n))
    ∷ [])

-- ---- Sweep, Time, End

unfoldable pub why_not_sweep : Day → History → ℕ → Option Why
why_not_sweep day J a = first_some (
    over J
    ∷ unless (is_sub_account day a) whys.NoSuch
    ∷ unless (nat_eq (clock J) MIDNIGHT) (whys.Clock (clock J))
    ∷ unless (nat_lt 0 (balance day J a)) whys.Empty
    ∷ [])

unfoldable pub why_not_time : Day → History → Option Why
why_not_time day J = first_some (
    over J
    ∷ unless (nat_lt (clock J) MIDNIGHT) (whys.Clock (clock J))
    ∷ option_map whys.Left (untaken_reached day J)
    ∷ option_map whys.Ready (first_ready day J)
    ∷ [])

unfoldable pub why_not_end : Day → History → Option Why
why_not_end day J = first_some (
    over J
    ∷ unless (nat_eq (clock J) MIDNIGHT) (whys.Clock (clock J))
    ∷ option_map whys.Ready (first_ready day J)
    ∷ [])

-- ---- the reason for a want, or none where the want has a line

abbrev pub why_of : Day → History → Want → Option Why
why_of day J (wants.In n) = why_not_in day J n
why_of day J (wants.Book n k) = why_not_book day J n k
why_of day J (wants.All n) = why_not_all day J n
why_of day J wants.Time = why_not_time day J
why_of day J (wants.Expire n) = why_not_expire day J n
why_of day J (wants.Ask n) = why_not_ask day J n
why_of day J (wants.Cover n) = why_not_cover day J n
why_of day J (wants.Refuse n) = why_not_refuse day J n
why_of day J (wants.Sweep a) = why_not_sweep day J a
why_of day J wants.End = why_not_end day J
