-- What is known of a row after one more line.
use Rattle.std.proofs.Common.{◌≡◌, ◌∙◌, ℕ, List, [], ◌∷◌, refl, sym, ap, arith, if◌then◌else◌}
use Rattle.std.specs.Prelude.{max, min}
use Rattle.batch_records.specs.DayRecord.{Day}
use Rattle.commit_journal.specs.Line.{History, Line}
use Rattle.machine.specs.Telling.History.{clock, is_time}
use Rattle.machine.specs.Records.Setup.{opening}
use Rattle.machine.specs.Telling.Balances.{balance, credited, debited}
use Rattle.day_page.specs.declared.courses.Running.{Running}
use Rattle.day_page.specs.Courses.{highest, lowest, total}
use Rattle.day_page.specs.Running.{running}

abbrev with_held : Running → ℕ → ℕ → Running
with_held before now held = record { clock = now; held = held; lowest = min before.lowest held; highest = max before.highest held }

line_more : (day : Day) (members : List ℕ) (l : Line) (J : History) → with_held (running day members J) (if is_time l.head.kind then l.head.entry else clock J) (total day members (l ∷ J)) ≡ running day members (l ∷ J)
unfolding clock lowest highest
line_more day members l J = refl

pub run_more : (day : Day) (members : List ℕ) (l : Line) (later J : History) (before : Running) (now held : ℕ) → later ≡ l ∷ J → before ≡ running day members J →
    now ≡ (if is_time l.head.kind then l.head.entry else before.clock) → held ≡ total day members later → with_held before now held ≡ running day members later
run_more day members l later J before now held e known time holds =
    (λ i. with_held (known i) ((time ∙ ap (λ (r : Running). if is_time l.head.kind then l.head.entry else r.clock) known) i) ((holds ∙ ap (total day members) e) i))
    ∙ line_more day members l J ∙ ap (running day members) (sym e)

-- ---- before the first line

pub none_held : (day : Day) (a : ℕ) → opening day a ≡ balance day [] a
unfolding credited debited
none_held day a = omega arith

pub run_first : (day : Day) (members : List ℕ) (held : ℕ) → held ≡ total day members [] → record { clock = 0; held = held; lowest = held; highest = held } ≡ running day members []
unfolding clock lowest highest
run_first day members held e = λ i. record { clock = 0; held = e i; lowest = e i; highest = e i }
