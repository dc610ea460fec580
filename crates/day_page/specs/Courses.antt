-- How balances went over the clock.
use Rattle.std.specs.Prelude.{ℕ, ◌+◌, ◌-◌, ◌^◌, min, max, Bool, ◌&&◌, ◌||◌, if◌then◌else◌, List, [], ◌∷◌, Option, Some, None, map, sum_by, count_by, nat_eq, nat_lt, take}
use Rattle.std.specs.List.{flat_map, range_with_len}
use Rattle.cash_amounts.specs.declared.limits.TheConstants.{MAX_ACCOUNTS}
use Rattle.batch_records.specs.DayRecord.{Day}
use Rattle.commit_journal.specs.declared.line.Move.{Move}
use Rattle.commit_journal.specs.Line.{History}
use Rattle.commit_journal.specs.Histories.{moves_of}
use Rattle.machine.specs.Words.{is_zero}
use Rattle.machine.specs.Records.Setup.{account_numbers}
use Rattle.machine.specs.Telling.History.{clock}
use Rattle.machine.specs.Telling.Balances.{balance}
use Rattle.day_page.specs.declared.words.Request.{Request}
use Rattle.day_page.specs.declared.movers.Mover.{Mover}
use Rattle.day_page.specs.declared.courses.Course.{Course}
use Rattle.day_page.specs.declared.courses.Point.{Point}
use Rattle.day_page.specs.Parties.{owns_dca}
use Rattle.day_page.specs.Stops.{stops}

-- ---- which accounts are shown: all dedicated cash accounts of a party, and of the whole day the ten that moved most

-- how many: of a party all that a day may have
abbrev pub most_of : Option (List ℕ) → ℕ
most_of None = 10
most_of (Some party) = MAX_ACCOUNTS

abbrev pub most_shown : Request → ℕ
most_shown r = most_of r.party

-- what a move takes from an account, and brings to it
abbrev pub touch : ℕ → Move → ℕ
touch a m = (if nat_eq m.debit a then m.amount else 0) + (if nat_eq m.credit a then m.amount else 0)

-- what all moves of the journal did
abbrev pub turnover : History → ℕ → ℕ
turnover J a = sum_by (touch a) (moves_of J)

-- what some moves did to each of so many accounts, by their numbers
abbrev pub turned_by : List Move → ℕ → List ℕ
turned_by moves count = map (λ a. sum_by (touch a) moves) (range_with_len 1 count)

abbrev pub added : ℕ → ℕ → ℕ
added amount sum = min (sum + amount) (2 ^ 128 - 1)

abbrev pub mover_of : Day → Request → ℕ → ℕ → Mover
mover_of day r a cents = record { account = a; own = owns_dca day r a; cents = cents }

abbrev pub mover : Day → Request → History → ℕ → Mover
mover day r J a = mover_of day r a (turnover J a)

abbrev pub movers : Day → Request → History → List Mover
movers day r J = map (mover day r J) (account_numbers day)

-- the other account is the party's too, and moved more, or as much and stands before this one
abbrev pub is_ahead : Mover → Mover → Bool
is_ahead one other = other.own && (nat_lt one.cents other.cents || nat_eq one.cents other.cents && nat_lt other.account one.account)

-- fewer than so many are ahead
abbrev pub is_shown : ℕ → List Mover → Mover → Bool
is_shown most all one = one.own && nat_lt (count_by (is_ahead one) all) most

abbrev pub shown_part : ℕ → List Mover → Mover → List ℕ
shown_part most all one = if is_shown most all one then one.account ∷ [] else []

abbrev pub shown_of : ℕ → List Mover → List ℕ
shown_of most all = flat_map (shown_part most all) all

-- in file order; of two that moved as much the earlier stands ahead, so there are never more than so many
abbrev pub shown : Day → Request → History → List ℕ
shown day r J = take (most_shown r) (shown_of (most_shown r) (movers day r J))

-- ---- the balance of one of them, or of all

-- the accounts of a row: 0 is all that are shown
abbrev pub members : List ℕ → ℕ → List ℕ
members accounts n = if is_zero n then accounts else n ∷ []

abbrev pub total : Day → List ℕ → History → ℕ
total day accounts J = sum_by (balance day J) accounts

-- the lowest and the highest over all beginnings of the journal, also between stops
unfoldable pub lowest : Day → List ℕ → History → ℕ
lowest day accounts [] = total day accounts []
lowest day accounts (l ∷ J) = min (lowest day accounts J) (total day accounts (l ∷ J))

unfoldable pub highest : Day → List ℕ → History → ℕ
highest day accounts [] = total day accounts []
highest day accounts (l ∷ J) = max (highest day accounts J) (total day accounts (l ∷ J))

-- in cents: before the first line, the lowest, the highest, and after the last line
abbrev pub course_on : Day → List ℕ → History → ℕ → Course
course_on day members J n = record { account = n; opening = total day members []; lowest = lowest day members J; highest = highest day members J; closing = total day members J }

abbrev pub course : Day → List ℕ → History → ℕ → Course
course day accounts J n = course_on day (members accounts n) J n

-- ---- the series: the balance at each stop, and at last that of the whole journal

abbrev pub point : Day → List ℕ → ℕ → History → Point
point day members n J = record { account = n; clock = clock J; cents = total day members J }

abbrev pub series_on : Day → List ℕ → History → ℕ → List Point
series_on day members J n = map (point day members n) (stops J)

abbrev pub series : Day → List ℕ → History → ℕ → List Point
series day accounts J n = series_on day (members accounts n) J n

-- ---- all rows: the sum of those that are shown, and each of them; none where none is shown

abbrev pub rows : List ℕ → List ℕ
rows [] = []
rows (a ∷ accounts) = 0 ∷ a ∷ accounts

abbrev pub courses : Day → List ℕ → History → List Course
courses day accounts J = map (course day accounts J) (rows accounts)

abbrev pub all_points : Day → List ℕ → History → List Point
all_points day accounts J = flat_map (series day accounts J) (rows accounts)
