-- What is told, part by part: each line of the journal with what it tells, each bad record, and nothing else.
use Rattle.std.specs.Prelude.{ℕ, ◌+◌, ◌≡◌, suc, Bool, if◌then◌else◌, List, [], ◌∷◌, ◌++◌, length, filter_map, Option, Some, None, codes, decimal}
use Rattle.std.specs.List.{flat_map}
use Rattle.outside_io.specs.TextLine.{text_line}
use Rattle.batch_records.specs.DayRecord.{Day}
use Rattle.batch_records.specs.declared.day.DayCode.{DayCode}
use Rattle.commit_journal.specs.Line.{History}
use Rattle.commit_journal.specs.Text.{line_text}
use Rattle.program_answers.specs.Answers.{day_code_text}
use Rattle.live_records.specs.Heard.{Call, Takes, Stops, Refuses, Breaks, Heard, day_of}
use Rattle.live_order.specs.LiveOrder.{live, live_journal}
use Rattle.status_messages.specs.Statuses.{statuses}
use Rattle.status_messages.specs.Telling.{texts}
use Rattle.closing_balances.specs.Closing.{closing_text}
use Rattle.live_day.specs.Events.{events_in}

pub data Part : Type 0 where
  -- the newest line of a journal
  OfLine : History → Part
  -- a record that is refused, by its number and its code
  OfRefused : ℕ → DayCode → Part
  -- a bad record that ended the run
  OfBroken : ℕ → DayCode → Part

-- the line (J) with its moves (M), and directly behind them what it tells the parties (S)
abbrev pub newest_text : Day → History → List ℕ
newest_text day [] = []
newest_text day (l ∷ J) = line_text (suc (length J)) l ++ texts (statuses day J l)

abbrev pub part_text : Day → Part → List ℕ
part_text day (OfLine J) = newest_text day J
part_text day (OfRefused number code) = text_line (codes "R" ∷ decimal number ∷ day_code_text code ∷ [])
part_text day (OfBroken number code) = text_line (codes "E" ∷ decimal number ∷ day_code_text code ∷ [])

abbrev pub journal_of : Part → Option History
journal_of (OfLine J) = Some J
journal_of _ = None

-- a journal up to each of its lines, the oldest first
abbrev pub beginnings : History → List History
beginnings [] = []
beginnings (l ∷ J) = beginnings J ++ (l ∷ J) ∷ []

-- the parts that are bad records, each with how many lines stand before it, where so many stand before them all
abbrev pub records_after : ℕ → List Part → List (ℕ × Part)
records_after before [] = []
records_after before (OfLine J ∷ parts) = records_after (before + 1) parts
records_after before (OfRefused number code ∷ parts) = (before, OfRefused number code) ∷ records_after before parts
records_after before (OfBroken number code ∷ parts) = (before, OfBroken number code) ∷ records_after before parts

-- those that have to be told, each with how many lines the events before it have made, where so many events came before them all
abbrev pub records_called : Day → ℕ → List Call → List (ℕ × Part)
records_called day k [] = []
records_called day k (Takes ∷ calls) = records_called day (k + 1) calls
records_called day k (Stops ∷ calls) = records_called day (k + 1) calls
records_called day k (Refuses number code ∷ calls) = (length (live day k []), OfRefused number code) ∷ records_called day k calls
records_called day k (Breaks number code ∷ calls) = (length (live day k []), OfBroken number code) ∷ records_called day k calls

-- how many events have come: those that records call for, and the end, where the day is over
abbrev pub events_to : Bool → List Call → ℕ
events_to over calls = if over then suc (events_in calls) else events_in calls

-- Where this was heard, and the day is over or not, a text is what is told: its parts, and in the end what each account holds and how
-- many lines there are. Of each line that the events make there is one part, in their order, and of each bad record that is told one,
-- directly behind the lines of all events before it.
pub record IsTold (h : Heard) (over : Bool) (text : List ℕ) : Type 0 where
  pub parts : List Part
  pub all : text ≡ flat_map (part_text (day_of h)) parts ++ (if over then closing_text (day_of h) (live_journal (day_of h)) else [])
  pub lines : filter_map journal_of parts ≡ beginnings (live (day_of h) (events_to over h.calls) [])
  pub records : records_after 0 parts ≡ records_called (day_of h) 0 h.calls
