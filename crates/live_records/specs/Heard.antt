-- What becomes of the whole records of a live day, one after the other, and what each calls for.
use Rattle.std.specs.Prelude.{ℕ, ◌+◌, ◌==◌, Bool, true, false, ◌||◌, if◌then◌else◌, List, [], ◌∷◌, ◌++◌, length, map, fold, filter_map, Option, Some, None}
use Rattle.std.specs.List.{list_any}
use Rattle.std.specs.Option.{option_map_or}
use Rattle.batch_records.specs.Codes.{first_code}
use Rattle.batch_records.specs.CountText.{count_in}
use Rattle.batch_records.specs.Made.{day_made, is_batch, is_end, is_entry, is_late, so_far_of, version_of}
use Rattle.batch_records.specs.Kinds.{by_kind, is_message_kind}
use Rattle.batch_records.specs.Records.{Fields}
use Rattle.batch_records.specs.Versions.{count_field}
use Rattle.batch_records.specs.DayRecord.{Day}
use Rattle.batch_records.specs.declared.day.DayCode.{DayCode}
use Rattle.batch_records.specs.declared.so_far.SoFar.{SoFar}
use Rattle.live_records.specs.WholeRecords.{whole_records}

-- what a whole record calls for
pub data Call : Type 0 where
  -- the next message of the accepted day is taken
  Takes : Call
  -- the clock moves to its next stop
  Stops : Call
  -- the record of this number is refused by a line of its own
  Refuses : ℕ → DayCode → Call
  -- it ends the run, since it is bad and the day hasn't begun
  Breaks : ℕ → DayCode → Call

-- a record with its number
abbrev pub Numbered : Type 0
Numbered = ℕ × Fields

abbrev pub fields_of : List Numbered → List Fields
fields_of records = map (λ x. x.1) records

abbrev pub numbers_of : List Numbered → List ℕ
numbers_of records = map (λ x. x.0) records

-- what has become of the records so far
pub record Heard : Type 0 where
  -- how many there were
  pub count : ℕ
  -- those of the accepted day
  pub accepted : List Numbered
  -- those of the batch that is open: its BAT record, and its entries so far
  pub batch : List Numbered
  -- the numbers of those that stand in batches which were refused, and have no line of their own
  pub dropped : List ℕ
  -- a record of a message, or a stop, was accepted
  pub begun : Bool
  -- the last record was a refused one of a batch, or an entry after it that was passed over
  pub passing : Bool
  -- a bad record ended the run
  pub broken : Bool
  -- what they called for
  pub calls : List Call

abbrev pub nothing : Heard
nothing = record { count = 0; accepted = []; batch = []; dropped = []; begun = false; passing = false; broken = false; calls = [] }

abbrev pub is_some_of : {A : Type 0} → List A → Bool
is_some_of [] = false
is_some_of (x ∷ xs) = true

-- What a record is judged with: the accepted records before it, those of the open batch among them. An entry has its place where a batch
-- is open; a system, an account and what one keeps until the day has begun.
abbrev pub judged_with : Heard → SoFar
judged_with h = record (so_far_of (fields_of (h.accepted ++ h.batch))) { begun = h.begun; in_batch = is_some_of h.batch }

-- ---- batches

abbrev pub calls_of_batch : List Numbered → List Call
calls_of_batch [] = []
calls_of_batch (x ∷ xs) = Takes ∷ []

-- the open batch, if one is, is one message
abbrev pub taken : Heard → Heard
taken h = record h { accepted = h.accepted ++ h.batch; batch = []; calls = h.calls ++ calls_of_batch h.batch }

-- whether a batch has as many entries as its own record says
abbrev pub has_all : ℕ → List Numbered → Bool
has_all version [] = false
has_all version (x ∷ entries) = length entries == count_in (count_field version x.1)

-- with its last entry the open batch is one message
abbrev pub unless_whole : Heard → Heard
unless_whole h = if has_all (version_of (fields_of h.accepted)) h.batch then taken h else h

-- ---- the record that comes

-- which has its number, and by which nothing is passed over any more
abbrev pub counted : Heard → Heard
counted h = record h { count = h.count + 1; passing = false }

-- an entry that is passed over
abbrev pub passed : Heard → Heard
passed h = record h { count = h.count + 1; dropped = h.dropped ++ (h.count + 1) ∷ [] }

-- one without a code. The open batch has an entry more, or a batch is open with it, or it is of the day by itself
abbrev pub calls_of : Fields → List Call
calls_of r = if by_kind false is_message_kind r then Takes ∷ [] else if is_late r then Stops ∷ [] else []

unfoldable pub accept : Heard → Fields → Heard
accept h r =
    if is_entry r then unless_whole (record h { batch = h.batch ++ (h.count, r) ∷ [] })
    else if is_batch r then unless_whole (record h { batch = (h.count, r) ∷ []; begun = true })
    else record h { accepted = h.accepted ++ (h.count, r) ∷ []; begun = h.begun || is_late r; calls = h.calls ++ calls_of r }

-- one with a code. Before the day has begun it ends the run; from then on it is refused, and with it the batch that it is an entry of
unfoldable pub refuse : Heard → Fields → DayCode → Heard
refuse h r c =
    if h.begun then record h { batch = []; dropped = h.dropped ++ numbers_of h.batch; passing = is_batch r || is_some_of h.batch; calls = h.calls ++ Refuses h.count c ∷ [] }
    else record h { broken = true; calls = h.calls ++ Breaks h.count c ∷ [] }

abbrev pub judge : Heard → Fields → Heard
judge h r = option_map_or (refuse h r) (first_code (judged_with h) r) (accept h r)

-- after a record that ended the run none is heard; an entry after a refused record of a batch is passed over; any record but an entry
-- ends the open batch
unfoldable pub hear : Heard → Fields → Heard
hear h r =
    if h.broken then h
    else if is_entry r then (if h.passing then passed h else judge (counted h) r)
    else judge (counted (taken h)) r

unfoldable pub heard : List Fields → Heard
heard records = fold hear nothing records

-- ---- of an input

-- where all of it has come, or more may come
abbrev pub heard_in : Bool → List ℕ → Heard
heard_in all input = heard (whole_records all input)

-- the setup with the accepted messages and stops
abbrev pub day_of : Heard → Day
day_of h = day_made (fields_of h.accepted)

abbrev pub accepted_day : List ℕ → Day
accepted_day input = day_of (heard_in true input)

-- whether the record END is among those of the day
abbrev pub has_end : Heard → Bool
has_end h = list_any is_end (fields_of h.accepted)

-- what is told of a record by a line of its own: its number and its code
abbrev pub refusal_of : Call → Option (ℕ × DayCode)
refusal_of (Refuses n c) = Some (n, c)
refusal_of (Breaks n c) = Some (n, c)
refusal_of _ = None

unfoldable pub refusals_of : Heard → List (ℕ × DayCode)
refusals_of h = filter_map refusal_of h.calls

abbrev pub refusals : List ℕ → List (ℕ × DayCode)
refusals input = refusals_of (heard_in true input)
