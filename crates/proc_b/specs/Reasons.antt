-- The words of the machine for a batch of B alone. That they are the machine's is proved.
use Rattle.std.specs.Prelude.{ℕ, Bool, ◌&&◌, List, [], ◌∷◌, Option, filter, map, option_map, is_none}
use Rattle.std.specs.List.{find}
use Rattle.batch_records.specs.DayRecord.{Day}
use Rattle.commit_journal.specs.declared.line.Move.{Move}
use Rattle.commit_journal.specs.declared.line.Want.{Want}
use Rattle.commit_journal.specs.declared.line.Want.TheVariants as wants
use Rattle.commit_journal.specs.Line.{History}
use Rattle.machine.specs.declared.answers.Why.{Why}
use Rattle.machine.specs.Words.{first_some, only_if, when}
use Rattle.machine.specs.Stages.Phases.{phase, is_open}
use Rattle.machine.specs.Stages.Pending.{item, debtors}
use Rattle.machine.specs.Making.Lines.{is_short_debtor, may_expire}
use Rattle.machine.specs.Making.Reasons.{blocked, blocked_on, short, over, untaken, other_phase}
use Rattle.rule_book.specs.Moves.{goes_to}

-- the debtor account of each debit entry, where entries have these moves
abbrev pub debtors_in : Option ℕ → List Move → List ℕ
debtors_in technical ms = map (λ m. m.debit) (filter (goes_to technical) ms)

-- the first blocker on the debtor account of an entry of this move, where it is a debit entry
abbrev pub blocked_for : Day → History → ℕ → Option ℕ → Move → Option Why
blocked_for day J n technical m = only_if (goes_to technical m) (blocked day J (item n 0) m.debit)

-- the debtor account of such an entry with its balance, where it is a debit entry and the balance is below the gross
abbrev pub short_for : Day → History → ℕ → Option ℕ → Move → Option Why
short_for day J n technical m = when (goes_to technical m && is_short_debtor day J n m.debit) (short day J m.debit)

-- why an open batch isn't booked: the first blocker on a debtor account, else the first debtor account that lacks money
unfoldable pub why_waits_b : Day → History → ℕ → Option Why
why_waits_b day J n = first_some (
    blocked_on day J (item n 0) (debtors day n)
    ∷ option_map (short day J) (find (is_short_debtor day J n) (debtors day n))
    ∷ [])

-- why the batch isn't booked as a whole
unfoldable pub why_not_book_b : Day → History → ℕ → Option Why
why_not_book_b day J n = first_some (
    over J
    ∷ untaken J n
    ∷ other_phase day J n (is_open (phase day J n))
    ∷ why_waits_b day J n
    ∷ [])

-- whether it may be booked as a whole, the end of the day aside
abbrev pub may_book_b : Day → History → ℕ → Bool
may_book_b day J n = is_open (phase day J n) && is_none (why_waits_b day J n)

-- the want that has a line, the end of the day aside
unfoldable pub next_want : Day → History → ℕ → Option Want
next_want day J n = first_some (when (may_book_b day J n) (wants.All n) ∷ when (may_expire day J n) (wants.Expire n) ∷ [])
