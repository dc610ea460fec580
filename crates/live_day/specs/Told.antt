-- What is told of the records of a live day.
use Rattle.std.specs.Prelude.{ℕ, ◌+◌, suc, Bool, false, not, ◌&&◌, ◌||◌, nat_le, if◌then◌else◌, List, [], ◌∷◌, ◌++◌, length, decimal, codes}
use Rattle.outside_io.specs.TextLine.{text_line}
use Rattle.batch_records.specs.DayRecord.{Day}
use Rattle.batch_records.specs.declared.day.DayCode.{DayCode}
use Rattle.record_rows.specs.Lines.{line_of}
use Rattle.commit_journal.specs.Histories.{oldest}
use Rattle.commit_journal.specs.Line.{History, Line}
use Rattle.commit_journal.specs.Text.{line_text}
use Rattle.program_answers.specs.Answers.{day_code_text, refusal_text}
use Rattle.live_records.specs.Heard.{Call, Takes, Stops, Refuses, Breaks, day_of, has_end, heard_in}
use Rattle.live_records.specs.WholeRecords.{is_over}
use Rattle.live_order.specs.LiveOrder.{live, live_journal}
use Rattle.status_messages.specs.Statuses.{statuses}
use Rattle.status_messages.specs.Telling.{texts}
use Rattle.closing_balances.specs.Closing.{closing_text}

-- ---- lines

-- a line that is made after J: its text, its moves, and what it tells the parties
abbrev pub told_line : Day → History → Line → List ℕ
told_line day J l = line_text (suc (length J)) l ++ texts (statuses day J l)

-- the line at this place of a journal, from 1
abbrev pub told_newest : Day → History → List ℕ
told_newest day [] = []
told_newest day (l ∷ J) = told_line day J l

abbrev pub told_at : Day → History → ℕ → List ℕ
told_at day J place = told_newest day (oldest J place)

-- the lines of a journal after its first i
unfoldable pub told_behind : Day → ℕ → History → List ℕ
told_behind day i [] = []
told_behind day i (l ∷ J) = told_behind day i J ++ (if nat_le i (length J) then told_line day J l else [])

-- what is made at the k-th event of a day, from 0
abbrev pub told_event : Day → ℕ → List ℕ
told_event day k = told_behind day (length (live day k [])) (live day (suc k) [])

-- a record that is refused
abbrev pub refused_text : ℕ → DayCode → List ℕ
refused_text number code = text_line (codes "R" ∷ decimal number ∷ day_code_text code ∷ [])

-- ---- what records call for

-- after the first k events of a day
unfoldable pub told_calls : Day → ℕ → List Call → List ℕ
told_calls day k [] = []
told_calls day k (Takes ∷ calls) = told_event day k ++ told_calls day (k + 1) calls
told_calls day k (Stops ∷ calls) = told_event day k ++ told_calls day (k + 1) calls
told_calls day k (Refuses number code ∷ calls) = refused_text number code ++ told_calls day k calls
told_calls day k (Breaks number code ∷ calls) = refusal_text number code ++ told_calls day k calls

-- in the end: what each account holds after the lines of the journal, and how many lines there are
abbrev pub closing : Day → List ℕ
closing day = closing_text day (live_journal day)

-- the end of a day, which is its last event
abbrev pub told_end : Day → List ℕ
told_end day = told_event day (length day.messages + length day.stops) ++ closing day

-- ---- of an input

-- it has ended: all of it has come, or a line END with its line end
abbrev pub has_come : Bool → List ℕ → Bool
has_come all input = all || is_over (line_of input)

-- the day is over: END was accepted, and the input has ended
abbrev pub is_day_over : Bool → List ℕ → Bool
is_day_over all input = let h = heard_in all input in has_end h && not h.broken && has_come all input

-- what the whole records of an input call for, where all of it has come, or more may come
unfoldable pub told_in : Bool → List ℕ → List ℕ
told_in all input =
    let h = heard_in all input in
    told_calls (day_of h) 0 h.calls ++ (if is_day_over all input then told_end (day_of h) else [])

-- while more may come
abbrev pub told : List ℕ → List ℕ
told input = told_in false input
