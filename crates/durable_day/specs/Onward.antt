-- How a store goes on to the end of the day, and what a crash on the way may leave.
use Rattle.std.specs.Prelude.{◌≡◌, ℕ, suc, ◌+◌, ◌*◌, ◌-◌, ◌/◌, ◌%◌, ◌<◌, ◌≤◌, true, false, if◌then◌else◌, nat_eq, List, ◌∷◌, ◌++◌, length, drop, Option, Some, None, Result, Ok, Err}
use Rattle.outside_io.specs.Causes.{one_more}
use Rattle.batch_records.specs.DayRecord.{Day}
use Rattle.commit_journal.specs.declared.line.Want.{Want}
use Rattle.commit_journal.specs.declared.line.Want.TheVariants as wants
use Rattle.commit_journal.specs.Line.{History, Line}
use Rattle.commit_journal.specs.Histories.{Begins}
use Rattle.machine.specs.Orders.Bounds.{left}
use Rattle.machine.specs.Telling.Facts.{untaken_reached}
use Rattle.machine.specs.Telling.History.{is_ended}
use Rattle.machine.specs.Legal.{IsLegal, is_complete}
use Rattle.machine.specs.Making.Lines.{line_of}
use Rattle.machine.specs.Making.FirstReady.{first_ready}
use Rattle.machine.specs.Orders.Order.{append, time_want, until}
use Rattle.disk_model.specs.Cut.{IsCut}
use Rattle.disk_model.specs.Lasting.{StillLasts}
use Rattle.durable_day.specs.Appending.{newest_by}
use Rattle.durable_day.specs.Bytes.{StandsFor, stored}
use Rattle.durable_day.specs.Stores.{OnStore, IsStore}

-- ---- the order in which it goes on

abbrev pub want_among : Option ℕ → Option Want → Want → Want
want_among (Some n) ready last = wants.In n
want_among None (Some want) last = want
want_among None None last = last

-- that the least message of the rounds reached that isn't taken is taken; else the first want that is ready; else that time goes on, or
-- at midnight that the day ends
unfoldable pub next_want : Day → History → Want
next_want day J = want_among (untaken_reached day J) (first_ready day J) (time_want J)

abbrev pub with_next : Day → History → History
with_next day J = append day J (next_want day J)

-- the complete journal to which it comes
unfoldable pub gone_on : Day → History → History
gone_on day J = until is_ended (with_next day) (left day J) J

-- how many lines are missing
abbrev pub missing : Day → History → ℕ
missing day J = length (gone_on day J) - length J

-- how many bytes are written on the way there
abbrev pub missing_bytes : Day → History → ℕ
missing_bytes day J = length (stored (gone_on day J)) - length (stored J) + missing day J

-- the journal with so many lines more on the way there
abbrev pub lines_after : Day → History → ℕ → History
lines_after day J lines = drop (missing day J - lines) (gone_on day J)

-- These lines in front, a closed gate after them, and further on what stood there.
abbrev pub put_over : History → List ℕ → List ℕ
put_over J bytes = stored J ++ 0 ∷ drop (suc (length (stored J))) bytes

-- what the bytes of a store become with so many lines more; none are written where there are none
abbrev pub with_lines : Day → History → List ℕ → ℕ → List ℕ
with_lines day J bytes lines = if nat_eq lines 0 then bytes else put_over (lines_after day J lines) bytes

-- what is seen of them after so many calls of the disk, four for each line
abbrev pub gone_by : Day → History → List ℕ → ℕ → List ℕ
gone_by day J bytes calls = newest_by (lines_after day J (suc (calls / 4))) (with_lines day J bytes (calls / 4)) (calls % 4)

-- the line of the want is the newest, at this place
abbrev pub IsMade : Day → History → Want → History → ℕ → Type 0
IsMade day J want later place = (l : Line) × (line_of day J want ≡ Some l) × (later ≡ l ∷ J) × (place ≡ length later)

-- ---- what is on the disk meanwhile

-- the bytes stand for a journal between this one and the one to which it comes, with at least so many lines more
pub record StandsOnTheWay (day : Day) (J : History) (lines : ℕ) (bytes : List ℕ) : Type 0 where
  pub journal : History
  pub legal : IsLegal day journal
  pub from : Begins J journal
  pub to : Begins journal (gone_on day J)
  pub count : length J + lines ≤ length journal
  pub stands : StandsFor journal bytes

-- A call of the disk failed, the last and the only one, while the line after so many was appended; whatever a crash now leaves has
-- these lines.
pub record StoppedOnTheWay {D : Type 0} (seen : D → List ℕ) (image : D → List ℕ → Type 0) (clock : D → ℕ) (lasts cut_after : D → ℕ → ℕ → ℕ → Type 0) (count : D → ℕ) (store : OnStore D) (disk : D) : Type 0 where
  pub lines : ℕ
  pub not_all : lines < missing store.day store.history
  pub stands : (c : List ℕ) → image disk c → StandsOnTheWay store.day store.history lines c
  pub time : clock disk ≤ clock store.disk + 4 * (lines + 1)
  pub counted : count disk ≡ one_more (count store.disk)
  pub sure : StillLasts lasts count store.disk disk (4 * (lines + 1)) (4 * (lines + 1)) (missing_bytes store.day store.history)
  pub cut : IsCut seen cut_after store.disk disk false (4 * missing store.day store.history) (4 * missing store.day store.history) (missing_bytes store.day store.history) (gone_by store.day store.history (seen store.disk))

-- the journal is complete, the one to which it was to come
pub record HasGoneOn {D : Type 0} (seen : D → List ℕ) (image : D → List ℕ → Type 0) (clock : D → ℕ) (lasts cut_after : D → ℕ → ℕ → ℕ → Type 0) (count : D → ℕ) (store later : OnStore D) : Type 0 where
  pub day : later.day ≡ store.day
  pub lines : later.history ≡ gone_on store.day store.history
  pub complete : is_complete later.history ≡ true
  pub is : IsStore seen image later
  pub time : clock later.disk ≤ clock store.disk + 4 * missing store.day store.history
  pub kept : count later.disk ≡ count store.disk
  pub sure : StillLasts lasts count store.disk later.disk (4 * missing store.day store.history) (4 * missing store.day store.history) (missing_bytes store.day store.history)
  pub cut : IsCut seen cut_after store.disk later.disk true (4 * missing store.day store.history) (4 * missing store.day store.history) (missing_bytes store.day store.history) (gone_by store.day store.history (seen store.disk))

abbrev pub GoesOn : {D : Type 0} → (D → List ℕ) → (D → List ℕ → Type 0) → (D → ℕ) → (D → ℕ → ℕ → ℕ → Type 0) → (D → ℕ → ℕ → ℕ → Type 0) → (D → ℕ) → OnStore D → Result (OnStore D) D → Type 0
GoesOn seen image clock lasts cut_after count store (Ok later) = HasGoneOn seen image clock lasts cut_after count store later
GoesOn seen image clock lasts cut_after count store (Err disk) = StoppedOnTheWay seen image clock lasts cut_after count store disk
