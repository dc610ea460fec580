-- What is ready of a message, by its phase; and the items that are due, in their row.
use Rattle.std.specs.Prelude.{ℕ, ◌≡◌, ◌≤◌, ◌<◌, Bool, false, [], ◌∷◌, Option, None, Some}
use Rattle.batch_records.specs.DayRecord.{Day}
use Rattle.commit_journal.specs.declared.line.Want.{Want}
use Rattle.commit_journal.specs.declared.line.Want.TheVariants as wants
use Rattle.commit_journal.specs.Line.{History}
use Rattle.machine.specs.declared.answers.Phase.{Phase}
use Rattle.machine.specs.declared.answers.Phase.TheVariants as phases
use Rattle.machine.specs.Words.{first_some, when}
use Rattle.machine.specs.Making.Lines.{is_ready_item, may_ask, may_cover, may_expire, may_refuse}
use Rattle.machine.specs.Orders.Hints.{unfinished}
use Rattle.number_set.specs.Next.{IsLeast, IsNext}
use Rattle.ready_items.specs.Kept.{IsRenewed, Ready, is_member}
use Rattle.scan_laws.specs.Numbers.{item_count, item_of}
use Rattle.due_items.specs.Due.{due_at}

abbrev pub ready_in : Day → History → ℕ → Phase → Option Want
ready_in day J n phases.Overdue = first_some (when (may_ask day J n) (wants.Ask n) ∷ when (may_expire day J n) (wants.Expire n) ∷ [])
ready_in day J n phases.Answered = first_some (when (may_cover day J n) (wants.Cover n) ∷ when (may_refuse day J n) (wants.Refuse n) ∷ [])
ready_in day J n phases.Asking = when (may_refuse day J n) (wants.Refuse n)
ready_in day J n phases.Open = unfinished day J n
ready_in day J n phases.Covered = unfinished day J n
ready_in day J n _ = None

-- ---- by the numbers of the items

-- the next item that is due, from this number on; none exactly where there is none
abbrev pub IsNextDue : Day → History → ℕ → Option ℕ → Type 0
IsNextDue day J from None = (i : ℕ) → from ≤ i → i < item_count day → due_at day J i ≡ false
IsNextDue day J from (Some i) = IsLeast (due_at day J) from i

abbrev pub ready_at : Day → History → ℕ → Bool
ready_at day J i = is_ready_item day J (item_of day i).msg (item_of day i).entry

-- no item is ready
abbrev pub RestAll : Day → History → Type 0
RestAll day J = (i : ℕ) → i < item_count day → ready_at day J i ≡ false

-- each account has its candidate, the scan is at the beginning, and no member is left
abbrev pub IsAtRest : Ready → Type 0
IsAtRest v = IsRenewed v × (v.at ≡ 0) × IsNext (is_member v) v.at None
