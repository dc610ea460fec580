-- What an answer says of an input.
use Rattle.std.proofs.Common.{◌≡◌, ◌⊎◌, ◌∙◌, inl, inr, ℕ, ◌*◌, ◌-◌, ◌/◌, ◌<◌, ◌≤◌, true, false, List, [], ◌∷◌, length, Err, refl, sym, ap, subst, arith}
use Rattle.std.specs.Prelude.{if◌then◌else◌, nat_eq}
use Rattle.std.proofs.lemmas.Bool.{false≢true}
use Rattle.batch_records.specs.DayRecord.{Day}
use Rattle.batch_records.specs.declared.day.DayCode.{DayCode}
use Rattle.batch_records.specs.Days.{day_of_bytes}
use Rattle.batch_records.specs.Sound.{is_sound}
use Rattle.commit_journal.specs.Line.{History}
use Rattle.settlement_laws.proofs.EachLaw.AllLaws.{all_laws}
use Rattle.outside_io.specs.Pieces.{SinkState}
use Rattle.durable_day.specs.declared.words.Request.{Request}
use Rattle.durable_day.specs.declared.words.Request.TheVariants as requests
use Rattle.program_answers.specs.Answers.{Answer, refused}
use Rattle.program_answers.specs.Giving.{Says, SaysOneIfRoom}
use Rattle.program_answers.specs.Inputs.{IsGiven}
use Rattle.durable_day.specs.Answers.{AnswersOver, BreaksOff, DoesIt, EndsIt, IsForeignTo, IsWhole, NoneFails, ShowsIt, StopsIt, calls_of_run, calls_to_open, journal_in, longest_input, seen_at_end, store_of}
use Rattle.durable_day.specs.Bytes.{StandsFor, front, is_closed}
use Rattle.durable_day.specs.Onward.{StandsOnTheWay, gone_on, missing, put_over}
use Rattle.durable_day.specs.Promises.{HasJournal, IsAnswer, IsBrokenOff, IsComplete, IsDone, IsForeign, IsInFront, IsShown, IsStopped, WasGoingOn, WasNotOpened}
use Rattle.durable_day.proofs.DiskFacts.{late, new_whole, to_add}
use Rattle.durable_day.proofs.GoneOn.{begins_same, gone_complete, grows-gone_on}
use Rattle.durable_day.proofs.OpenFacts.{stands_for_none}
use Rattle.durable_day.proofs.ShownFacts.{gone_whole, lines_there}
use Rattle.durable_day.proofs.StoreFacts.{closed_fronts_stand, fronts_are_found, one_journal_each}

has_journal : (day : Day) (rest : List ℕ) → is_sound day ≡ true → IsWhole day rest → HasJournal day rest (journal_in day rest)
has_journal day rest sound whole = record {
  is = refl;
  legal = (fronts_are_found day (store_of rest) sound).legal;
  stands = closed_fronts_stand day (store_of rest) sound whole;
  one = λ other legal stands. (one_journal_each day (store_of rest) other sound legal stands).0;
}

in_front : (day : Day) (rest : List ℕ) → is_sound day ≡ true → IsInFront day rest (journal_in day rest)
in_front day rest sound =
    let found = fronts_are_found day (store_of rest) sound in
    record { is = refl; legal = found.legal; behind = (front day (store_of rest)).1; bytes_are = found.bytes_are; last = found.last }

-- ---- what each answer says

shown : (bytes : List ℕ) (day : Day) (rest text : List ℕ) → IsGiven longest_input bytes day rest → ShowsIt day rest text → IsShown bytes text
shown bytes day rest text given shows = record { day = day; rest = rest; given = given; journal = journal_in day rest; has = has_journal day rest given.sound shows.0; is = shows.1 }

-- what is there at the end, where each call passed
at_end : (calls : ℕ) (day : Day) (rest : List ℕ) → is_sound day ≡ true → IsWhole day rest → calls_of_run day rest ≤ calls → seen_at_end calls day rest ≡ (if nat_eq (missing day (journal_in day rest)) 0 then store_of rest else put_over (gone_on day (journal_in day rest)) (store_of rest))
at_end calls day rest sound whole enough =
    let J : History = journal_in day rest in
    let old : List ℕ = store_of rest in
    let add = to_add day rest whole in
    let stands = closed_fronts_stand day old sound whole in
    let to = (grows-gone_on day J).beginning in
    late calls (4 * missing day J) day rest (omega (arith, enough)) (omega (arith, add, enough))
    ∙ gone_whole day J (gone_on day J) old stands to (begins_same (gone_on day J)) (4 * missing day J) refl
    ∙ ap (λ (H : History). if nat_eq (missing day J) 0 then old else put_over H old) (lines_there day J (gone_on day J) to (begins_same (gone_on day J)))

complete : (calls : ℕ) (bytes : List ℕ) (day : Day) (rest text : List ℕ) → IsGiven longest_input bytes day rest → EndsIt day rest calls text → IsComplete calls bytes text
complete calls bytes day rest text given ends =
    let J : History = journal_in day rest in
    let has = has_journal day rest given.sound ends.whole in
    let grows = grows-gone_on day J in
    let legal = grows.legal has.legal in
    record {
      day = day;
      rest = rest;
      given = given;
      journal = J;
      has = has;
      legal = legal;
      laws = all_laws day (gone_on day J) given.sound legal;
      complete = gone_complete day J given.sound has.legal;
      goes_on = grows.beginning;
      stands = ends.stands;
      enough = ends.enough;
      shows = ends.shows;
      kept = ends.shows ∙ at_end calls day rest given.sound ends.whole ends.enough;
    }

stopped : (calls : ℕ) (bytes : List ℕ) (day : Day) (rest text : List ℕ) → IsGiven longest_input bytes day rest → StopsIt day rest calls text → IsStopped calls bytes text
stopped calls bytes day rest text given stops = record {
  day = day;
  rest = rest;
  given = given;
  journal = journal_in day rest;
  front = in_front day rest given.sound;
  few = stops.few;
  shows = stops.shows;
  left = go stops.left;
}
  where
    go : (((text ≡ rest) × (calls < calls_to_open day rest)) ⊎ (IsWhole day rest × StandsOnTheWay day (journal_in day rest) ((calls - calls_to_open day rest) / 4) text)) → WasNotOpened calls day rest text ⊎ WasGoingOn calls day rest (journal_in day rest) text
    go (inl untouched) = inl untouched
    go (inr way) = inr (record { has = has_journal day rest given.sound way.0; few = omega (arith, stops.few, to_add day rest way.0); stands = way.1 })

same_store : (day : Day) (rest : List ℕ) → is_closed (front day (store_of rest)).1 ≡ false → (store_of rest ≡ rest) × (rest ≡ [] → ⊥)
same_store day [] e = absurd (false≢true (sym e ∙ new_whole day))
same_store day (byte ∷ bytes) e = (refl, λ none. cc none)

foreign : (r : Request) (bytes : List ℕ) (day : Day) (rest text : List ℕ) → IsGiven longest_input bytes day rest → IsForeignTo day rest text → NoneFails r day rest → IsForeign r bytes text
foreign r bytes day rest text given is enough =
    let same = same_store day rest is.0 in
    record {
      day = day;
      rest = rest;
      given = given;
      some = same.1;
      none = λ J legal stands. stands_for_none day (store_of rest) given.sound is.0 J legal (subst (λ (xs : List ℕ). StandsFor J xs) (sym same.0) stands);
      journal = journal_in day rest;
      front = in_front day rest given.sound;
      is = is.1;
      enough = enough;
    }

done : (r : Request) (bytes : List ℕ) (day : Day) (rest text : List ℕ) → IsGiven longest_input bytes day rest → DoesIt r day rest text → IsDone r bytes text
done (requests.Run calls) bytes day rest text given is = complete calls bytes day rest text given is
done requests.Show bytes day rest text given is = shown bytes day rest text given is

broken_off : (r : Request) (bytes : List ℕ) (day : Day) (rest text : List ℕ) → IsGiven longest_input bytes day rest → BreaksOff r day rest text → IsBrokenOff r bytes text
broken_off (requests.Run calls) bytes day rest text given is = stopped calls bytes day rest text given is
broken_off requests.Show bytes day rest text given is = is

is_answer : (r : Request) (bytes : List ℕ) (day : Day) (rest : List ℕ) (answer : Answer) → IsGiven longest_input bytes day rest → AnswersOver r day rest answer → IsAnswer r bytes answer
is_answer r bytes day rest answer given (inl did) = inl (did.0, done r bytes day rest answer.text given did.1)
is_answer r bytes day rest answer given (inr (inl broke)) = inr (inr (inr (inl (broke.0, broken_off r bytes day rest answer.text given broke.1))))
is_answer r bytes day rest answer given (inr (inr other)) = inr (inr (inr (inr (other.0, foreign r bytes day rest answer.text given other.1 other.2))))

-- ---- what is said of an input

pub says_over : {S : Type 0} (state : S → SinkState) (old new : S) (r : Request) (bytes : List ℕ) (day : Day) (rest : List ℕ) (status : ℕ) → IsGiven longest_input bytes day rest → SaysOneIfRoom state old new (AnswersOver r day rest) status → SaysOneIfRoom state old new (IsAnswer r bytes) status
says_over state old new r bytes day rest status given (inl none) = inl none
says_over state old new r bytes day rest status given (inr said) = inr (said.0, is_answer r bytes day rest said.0 given said.1, said.2)

pub says_refused : {S : Type 0} (state : S → SinkState) (old new : S) (r : Request) (bytes : List ℕ) (number : ℕ) (code : DayCode) (status : ℕ) → length bytes ≤ longest_input → day_of_bytes bytes ≡ Err (number, code) → Says (state old) (state new) (refused number code) status → SaysOneIfRoom state old new (IsAnswer r bytes) status
says_refused state old new r bytes number code status short read said =
    inr (refused number code, inr (inl (refl, record { short = short; number = number; code = code; refused = read; is = refl })), said)
