-- What each account holds after some lines, kept for all accounts side by side.
use Rattle.std.specs.Prelude.{ℕ, ◌≡◌, ◌+◌, ◌-◌, ◌^◌, ◌<◌, ◌≤◌, List, [], ◌∷◌, length, map, max, min, slice_index, get_or}
use Rattle.std.specs.Option.{option_map_or}
use Rattle.batch_records.specs.DayRecord.{Day}
use Rattle.commit_journal.specs.declared.line.Move.{Move}
use Rattle.commit_journal.specs.Line.{History}
use Rattle.machine.specs.Words.{numbered}
use Rattle.machine.specs.Records.Setup.{account_numbers}
use Rattle.machine.specs.Telling.Balances.{balance}
use Rattle.machine.specs.Telling.History.{clock}
use Rattle.day_facts.specs.Lists.{changed}
use Rattle.day_page.specs.declared.extents.Extent.{Extent}
use Rattle.day_page.specs.declared.courses.Point.{Point}
use Rattle.day_page.specs.Courses.{highest, lowest, total}
use Rattle.day_page.specs.Stops.{earlier_stops, stops}

-- ---- of accounts

abbrev pub extent : Day → History → ℕ → Extent
extent day J a = record { held = total day (a ∷ []) J; lowest = lowest day (a ∷ []) J; highest = highest day (a ∷ []) J }

abbrev pub extents : Day → History → List Extent
extents day J = map (extent day J) (account_numbers day)

-- what account a holds; nothing where there is none
abbrev pub held_in : List Extent → ℕ → ℕ
held_in xs a = option_map_or (λ x. x.held) (numbered xs a) 0

-- each of them is an account
abbrev pub AreAccounts : Day → List ℕ → Type 0
AreAccounts day members = (i : ℕ) → i < length members → (1 ≤ slice_index members i) × (slice_index members i ≤ length day.accounts)

-- what these accounts hold where the clock leaves its five minutes, a row for each stop
abbrev pub held_at_stops : Day → List ℕ → History → List (List ℕ)
held_at_stops day members J = map (λ P. map (balance day P) members) (earlier_stops J)

-- ---- one line: all that it brings, then all that it takes, and at last what it leaves

abbrev pub raised : ℕ → Extent → Extent
raised amount x = record { held = min (x.held + amount) (2 ^ 128 - 1); lowest = x.lowest; highest = x.highest }

abbrev pub lowered : ℕ → Extent → Extent
lowered amount x = record { held = x.held - amount; lowest = x.lowest; highest = x.highest }

abbrev pub marked : Extent → Extent
marked x = record { held = x.held; lowest = min x.lowest x.held; highest = max x.highest x.held }

unfoldable pub credited_by : List Move → List Extent → List Extent
credited_by [] xs = xs
credited_by (m ∷ moves) xs = credited_by moves (changed m.credit (raised m.amount) xs)

unfoldable pub debited_by : List Move → List Extent → List Extent
debited_by [] xs = xs
debited_by (m ∷ moves) xs = debited_by moves (changed m.debit (lowered m.amount) xs)

unfoldable pub marked_by : List Move → List Extent → List Extent
marked_by [] xs = xs
marked_by (m ∷ moves) xs = marked_by moves (changed m.credit marked (changed m.debit marked xs))

abbrev pub moved_by : List Move → List Extent → List Extent
moved_by moves xs = marked_by moves (debited_by moves (credited_by moves xs))

-- the first points stand at the stops of the journal, and then at its end
abbrev pub Clocks : Day → List ℕ → History → List Point → Type 0
Clocks day members J points = (i : ℕ) (d : Point) → i < length (stops J) → (i < length points) × ((get_or points i d).clock ≡ clock (get_or (stops J) i []))
