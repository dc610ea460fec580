-- Which items a line may change: of a Book line's message its own entry alone, but where the last debit of an A batch is booked.
use Rattle.std.specs.Prelude.{◌≡◌, ℕ, Bool, true, ◌&&◌, ◌||◌, ◌∷◌, if◌then◌else◌, nat_eq, is_none}
use Rattle.batch_records.specs.DayRecord.{Day}
use Rattle.commit_journal.specs.Line.{Line, History}
use Rattle.machine.specs.Records.Messages.{sort_of, is_a, is_debit}
use Rattle.machine.specs.Telling.History.{is_time, is_book, is_accepted, clock}
use Rattle.machine.specs.Stages.Phases.{phase}
use Rattle.machine.specs.Stages.Pending.{item, is_pending, standing, first_unbooked_debit}
use Rattle.scan_laws.specs.Concerns.{is_due, accepts_answer, ends_cycle}
use Rattle.scan_laws.specs.Views.{alone}

-- after the line no debit entry of the A batch is left, and it booked one: its credit entries become pending
abbrev pub frees_credits : Day → History → Line → Bool
frees_credits day J l = is_a (sort_of day l.head.msg) && is_debit day l.head.msg l.head.entry && is_none (first_unbooked_debit day (l ∷ J) l.head.msg)

-- the line may change item (n, k). An accepted objection changes none: it comes before the items are pending
abbrev pub concerns_item : Day → History → Line → ℕ → ℕ → Bool
concerns_item day J l n k =
    if is_book l.head.kind then nat_eq l.head.msg n && (nat_eq l.head.entry k || frees_credits day J l)
    else if is_time l.head.kind then is_accepted J n && is_due day l.head.entry n
    else nat_eq l.head.msg n || accepts_answer day l n || ends_cycle day J l n

-- what is the same of an item that a line doesn't concern
pub record IsSameItem (day : Day) (K J : History) (n k : ℕ) : Type 0 where
  pub same_pending : is_pending day K (item n k) ≡ is_pending day J (item n k)
  pub same_standing : is_pending day J (item n k) ≡ true → standing day K (item n k) ≡ standing day J (item n k)
  pub same_alone : alone day n k (phase day K n) (clock K) ≡ alone day n k (phase day J n) (clock J)
