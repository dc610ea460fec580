-- What the program promises of a run.
use Rattle.std.specs.Prelude.{ℕ, ◌≡◌, ◌+◌, ◌≤◌, ◌⊎◌, ◌==◌, Bool, true, false, not, ◌&&◌, ◌||◌, bytes_eq, if◌then◌else◌, List, [], ◌∷◌, ◌++◌, length, filter, filter_map, codes, Option, Some, None}
use Rattle.std.specs.List.{flat_map}
use Rattle.refused_memory.specs.{WasRefused}
use Rattle.outside_io.specs.Pieces.{HasPut, IsCutShort}
use Rattle.batch_records.specs.Sound.{is_sound}
use Rattle.batch_records.specs.declared.day.DayCode.{DayCode}
use Rattle.batch_records.specs.declared.day.DayCode.TheVariants as day_codes
use Rattle.commit_journal.specs.Line.{History}
use Rattle.commit_journal.specs.Text.{journal_text}
use Rattle.program_answers.specs.Answers.{Answer, illegal, refusal_text, size_text}
use Rattle.program_answers.specs.LivePrograms.{LiveProgram, LivePromises, LiveRun}
use Rattle.machine.specs.Laws.{Laws}
use Rattle.machine.specs.Legal.{IsLegal, is_complete}
use Rattle.status_messages.specs.Telling.{statuses_text}
use Rattle.as_client.specs.Views.{text_lines}
use Rattle.live_records.specs.Fates.{IsFront, fates}
use Rattle.live_records.specs.Heard.{Call, Refuses, Breaks, Heard, day_of, has_end, heard_in}
use Rattle.live_order.specs.LiveOrder.{live}
use Rattle.live_day.specs.Answers.{is_all, is_settled_by, live_answer, live_text, longest_input, looked_at}
use Rattle.live_day.specs.BeforeText.{before_text}
use Rattle.live_day.specs.OtherLines.{IsOtherLine}
use Rattle.live_day.specs.Parts.{IsTold, events_to}
use Rattle.live_day.specs.Resumed.{Before, before_of, is_own, is_resume_settled, longest_output, resumed_answer, told_resumed}
use Rattle.live_day.specs.Told.{closing, has_come, is_day_over, refused_text, told, told_in}

-- ---- what the words ask for

pub data Request : Type 0 where
  Runs : Request
  Resumes : Request

abbrev pub request_of : List (List ℕ) → Option Request
request_of (word ∷ []) = if bytes_eq word (codes "run") then Some Runs else if bytes_eq word (codes "resume") then Some Resumes else None
request_of _ = None

abbrev pub usage_text : List ℕ
usage_text = codes "usage: live_day run | resume\n"

-- as much as a run that goes on may read: two headers, what was read and what was written before, and what comes from then on
abbrev pub longest_resumed : ℕ
longest_resumed = 35 + longest_input + longest_output

-- what is asked for, as a program that answers while its input comes
abbrev pub program_of : Request → LiveProgram
program_of Runs = record { told = λ bytes. told (looked_at bytes); is_settled = is_settled_by; answer = live_answer; longest = longest_input }
program_of Resumes = record {
  told = λ bytes. told_resumed (before_of bytes);
  is_settled = is_resume_settled;
  answer = λ bytes. resumed_answer (before_of bytes);
  longest = longest_resumed;
}

-- ---- what an answer says of the bytes: of `run`, and of both runs together after a break

abbrev pub begins_line : ℕ → List ℕ → Bool
begins_line mark [] = false
begins_line mark (b ∷ line) = b == mark

-- the lines of a text that begin with one of two bytes
abbrev pub lines_with : ℕ → ℕ → List ℕ → List ℕ
lines_with first second text = flat_map (λ line. line ++ 10 ∷ []) (filter (λ line. begins_line first line || begins_line second line) (text_lines text))

-- a record that is refused while the day goes on: its number and its code
abbrev pub refused_by : Call → Option (ℕ × DayCode)
refused_by (Refuses number code) = Some (number, code)
refused_by _ = None

-- a bad record that ended the run
abbrev pub broken_by : Call → Option (ℕ × DayCode)
broken_by (Breaks number code) = Some (number, code)
broken_by _ = None

-- what stands behind all that is told, by the status: that too much came, or that the input has ended before its day
abbrev pub last_text : Heard → ℕ → List ℕ
last_text h status = if status == 7 then size_text else if (status == 3) && not h.broken then refusal_text (h.count + 1) day_codes.Cut else []

-- Its lines J and M are the text of a journal of the accepted day: what is made at the events that have come, with its end at status 0
-- alone. That is legal and, at status 0, complete; it keeps the laws. Where it has a line, the day is sound. Its lines S are those that
-- the journal tells. Its lines R are the refused records, each once, and one thing is told of each whole record that was heard: none is
-- after a bad one that ended the run. Its lines E are that one, and what stands behind all else. At status 0 what each account holds
-- stands behind all lines. All this stands in its order, and nothing else does.
pub record IsOfDay (bytes : List ℕ) (answer : Answer) : Type 0 where
  pub heard : Heard
  pub is : heard ≡ heard_in (is_all bytes) (looked_at bytes)
  pub status : answer.status ≡ (if heard.broken then 3 else if not (has_come (is_all bytes) (looked_at bytes)) then 7 else if has_end heard then 0 else 3)
  pub journal : History
  pub events : ℕ
  pub counted : events ≡ events_to (answer.status == 0) heard.calls
  pub made : journal ≡ live (day_of heard) events []
  pub sound : (0 ≡ length journal → ⊥) → is_sound (day_of heard) ≡ true
  pub legal : IsLegal (day_of heard) journal
  pub laws : is_sound (day_of heard) ≡ true → Laws (day_of heard) journal
  pub complete : answer.status ≡ 0 → is_complete journal ≡ true
  pub lines : lines_with 74 77 answer.text ≡ journal_text journal
  pub statuses : lines_with 83 83 answer.text ≡ statuses_text (day_of heard) journal
  pub holdings : answer.status ≡ 0 → lines_with 66 79 answer.text ≡ closing (day_of heard)
  pub no_holdings : (answer.status ≡ 0 → ⊥) → lines_with 66 79 answer.text ≡ []
  pub refused : lines_with 82 82 answer.text ≡ flat_map (λ x. refused_text x.0 x.1) (filter_map refused_by heard.calls)
  pub faults : lines_with 69 69 answer.text ≡ flat_map (λ x. refusal_text x.0 x.1) (filter_map broken_by heard.calls) ++ last_text heard answer.status
  pub once : (n : ℕ) → 1 ≤ n → n ≤ heard.count → fates n heard ≡ 1
  pub told : List ℕ
  pub in_order : IsTold heard (answer.status == 0) told
  pub all : answer.text ≡ told ++ last_text heard answer.status

-- ---- the program

-- Of a run with these words. The fields after `asked` hold of any bytes, so of those that this run read and of the answer to them.
pub record KeepsPromises (words : List (List ℕ)) (run : LiveRun) : Type 0 where
  -- other words get the usage line, or a front of it where a write failed, and nothing is read for them
  pub usage : request_of words ≡ None → ((run.status ≡ 2) × HasPut run.port run.port_after usage_text) ⊎ ((run.status ≡ 5) × IsCutShort run.port run.port_after usage_text)
  -- memory was wanting before anything was read or written, or never
  pub memory : run.status ≡ 1 → ((r : Request) × (request_of words ≡ Some r)) × (run.port_after ≡ run.port)
  -- and 1 has a cause: a request for memory was refused
  pub refused : run.status ≡ 1 → WasRefused
  -- what is asked for is answered while the input comes
  pub asked : (r : Request) → request_of words ≡ Some r → (run.status ≡ 1) ⊎ LivePromises (program_of r) run
  -- the answer is of a legal journal of the day that the accepted records make, and no record is lost
  pub of_day : (input : List ℕ) → IsOfDay input (live_answer input)
  -- what is told, of any bytes, while more may come or at their end: the lines that the events make which have come, each with its
  -- statuses, and the bad records, in their order, and nothing else
  pub tells : (all : Bool) (input : List ℕ) → IsTold (heard_in all input) (is_day_over all input) (told_in all input)
  -- what is told of a front of an input begins what is told of the input, whatever follows, and whether all of it has come or more may
  pub fronts : (all : Bool) (front rest : List ℕ) → IsFront (told front) (told_in all (front ++ rest))
  -- of both requests: what bytes call for begins the answer to any input that they begin, so nothing that was told is taken back
  pub begins : (r : Request) (front rest : List ℕ) → IsFront ((program_of r).told front) ((program_of r).answer (front ++ rest)).text
  -- and where bytes settle the answer, nothing that follows changes it
  pub settled : (r : Request) (front rest : List ℕ) → (program_of r).is_settled front ≡ true → (program_of r).answer (front ++ rest) ≡ (program_of r).answer front
  -- of `run`, where they don't, some bytes that follow change it
  pub unsettled : (front : List ℕ) → is_settled_by front ≡ false → (rest : List ℕ) × (live_answer (front ++ rest) ≡ live_answer front → ⊥)
  -- after a break: what a run had read and written, each with its header, is taken as that, and what follows goes on
  pub headers : (b : Before) → length b.read ≤ longest_input → length b.written ≤ longest_output → before_of (before_text b) ≡ Some b
  -- and where bytes aren't that yet, and nothing is answered, some that follow make them that
  pub resumes_on : (front : List ℕ) → before_of front ≡ None → is_resume_settled front ≡ false → (rest : List ℕ) × (b : Before) × (before_of (front ++ rest) ≡ Some b)
  -- where what was written isn't its own, the first line that isn't is told, and nothing else
  pub other_output : (b : Before) → is_own b ≡ false → (line : ℕ) × (resumed_answer (Some b) ≡ illegal line) × IsOtherLine b.written (told b.read) line
  -- where what was written before is its own, old and new output together are the text of the whole input
  pub together : (b : Before) → length b.read ≤ longest_input → is_own b ≡ true → b.written ++ (resumed_answer (Some b)).text ≡ live_text (b.read ++ b.rest)
  -- and the status is that of the whole input
  pub resumed_status : (b : Before) → is_own b ≡ true → (resumed_answer (Some b)).status ≡ (live_answer (b.read ++ b.rest)).status
