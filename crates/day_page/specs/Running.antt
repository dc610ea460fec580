-- What is known of a row of accounts after some lines.
use Rattle.std.specs.Prelude.{ℕ, ◌*◌, List, if◌then◌else◌, nat_eq, sum_by}
use Rattle.cash_amounts.specs.declared.cents.TheConstants.{MAX_CENTS}
use Rattle.batch_records.specs.DayRecord.{Day}
use Rattle.commit_journal.specs.declared.line.Move.{Move}
use Rattle.commit_journal.specs.Line.{History}
use Rattle.machine.specs.Orders.Bounds.{move_limit}
use Rattle.machine.specs.Telling.History.{clock}
use Rattle.day_page.specs.declared.courses.Running.{Running}
use Rattle.day_page.specs.Courses.{highest, lowest, total}

abbrev pub running : Day → List ℕ → History → Running
running day members J = record { clock = clock J; held = total day members J; lowest = lowest day members J; highest = highest day members J }

-- ---- what moves bring to accounts, and take from them

abbrev pub credit_of : ℕ → Move → ℕ
credit_of a m = if nat_eq m.credit a then m.amount else 0

abbrev pub debit_of : ℕ → Move → ℕ
debit_of a m = if nat_eq m.debit a then m.amount else 0

unfoldable pub came_to : List Move → ℕ → ℕ
came_to moves a = sum_by (credit_of a) moves

unfoldable pub left_from : List Move → ℕ → ℕ
left_from moves a = sum_by (debit_of a) moves

-- what the moves of a journal can bring at most
abbrev pub most_moved : ℕ
most_moved = MAX_CENTS * move_limit
