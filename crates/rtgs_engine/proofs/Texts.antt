-- Answers that are written.
use Rattle.std.proofs.Common.{◌≡◌, ◌+◌, ℕ, List, [], true, false, Result, refl, ap, sym, inl, inr, subst}
use Rattle.std.specs.Prelude.{if◌then◌else◌}
use Rattle.refused_memory.specs.{WasRefused}
use Rattle.outside_io.specs.Pieces.{SinkState}
use Rattle.outside_io.specs.Calls.{Puts}
use Rattle.batch_records.specs.DayRecord.{Day}
use Rattle.batch_records.specs.declared.day.DayCode.TheVariants as day_codes
use Rattle.batch_records.specs.DayPart.{is_line_ends}
use Rattle.batch_records.specs.Sound.{is_sound}
use Rattle.commit_journal.specs.Line.{History}
use Rattle.machine.specs.Orders.Order.{plain}
use Rattle.rtgs_engine.specs.declared.words.Command.{Command}
use Rattle.rtgs_engine.specs.declared.words.Command.TheVariants as commands
use Rattle.rtgs_engine.specs.CommandLines.{reads, workers_of}
use Rattle.program_answers.specs.Answers.{Answer, done, refused}
use Rattle.program_answers.specs.Giving.{Says, SaysIfRoom, SaysOneIfRoom, status_after}
use Rattle.program_answers.proofs.Saying.{says}
use Rattle.rtgs_engine.specs.Answers.{answer_of_day, if_alone}
use Rattle.rtgs_engine.specs.GivenAnswers.{SaysOfMade, settled}
use Rattle.rtgs_engine.specs.Journals.{IsOfDay}
use Rattle.rtgs_engine.specs.Outputs.{output}
use Rattle.rtgs_engine.specs.Ends.{of_input}
use Rattle.rtgs_engine.specs.Promises.{IsAnswer, IsInputAnswer}
use Rattle.rtgs_engine.proofs.AnswerFacts.{of-day}

pub says_same : (a b : Answer) (old new : SinkState) (status : ℕ) → a ≡ b → Says old new b status → Says old new a status
says_same a b old new status e s = subst (λ x. Says old new x status) (sym e) s

-- ---- the journal of a day, whichever was made

-- memory was wanting
pub says_nothing : {S : Type 0} (state : S → SinkState) (old new : S) (IsMade : History → Type 0) (answer : History → Answer) (status : ℕ) → status ≡ 1 → new ≡ old → WasRefused → SaysOfMade state old new IsMade answer status
says_nothing state old new IsMade answer status e same cause = record { journal = []; made = λ more. absurd (more e); said = inl (e, same, cause) }

pub says_of : {S : Type 0} (state : S → SinkState) (old new : S) (IsMade : History → Type 0) (answer : History → Answer) (status : ℕ) (J : History) → IsMade J → SaysIfRoom state old new (answer J) status → SaysOfMade state old new IsMade answer status
says_of state old new IsMade answer status J made said = record { journal = J; made = λ more. made; said = said }

-- the output of a journal of the day
pub says_settled : {S T E : Type 0} (state : S → SinkState) (old new : S) (workers : ℕ) (day d : Day) (J : History) (end : ℕ) (result : Result T E) → d ≡ day → IsOfDay workers day J → Puts (state old) (state new) (output d J) result → end ≡ status_after 0 result →
    SaysOfMade state old new (IsOfDay workers day) (settled day) end
says_settled {S} {T} {E} state old new workers day d J end result e made put is =
    says_of state old new (IsOfDay workers day) (settled day) end J made
    (inr (says (state old) (state new) (output day J) 0 end result (subst (λ text. Puts (state old) (state new) text result) (ap (λ (x : Day). output x J) e) put) is))

-- the same, or nothing, as memory was wanting
pub says_settled_if_room : {S : Type 0} (state : S → SinkState) (old new : S) (workers : ℕ) (day d : Day) (J : History) (status : ℕ) → d ≡ day → IsOfDay workers day J → SaysIfRoom state old new (settled d J) status →
    SaysOfMade state old new (IsOfDay workers day) (settled day) status
says_settled_if_room {S} state old new workers day d J status e made said = says_of state old new (IsOfDay workers day) (settled day) status J made (subst (λ (x : Day). SaysIfRoom state old new (settled x J) status) e said)

-- where only line ends follow the day, and where more does
pub says_alone : {S : Type 0} (state : S → SinkState) (old new : S) (workers : ℕ) (day : Day) (rest : List ℕ) (records status : ℕ) → is_line_ends rest ≡ true → SaysOfMade state old new (IsOfDay workers day) (settled day) status →
    SaysOfMade state old new (IsOfDay workers day) (λ J. if_alone rest records (output day J)) status
says_alone state old new workers day rest records status alone s =
    record { journal = s.journal; made = s.made; said = subst (λ b. SaysIfRoom state old new (if b then done (output day s.journal) else refused (records + 1) day_codes.Place) status) (sym alone) s.said }

pub says_more : {S : Type 0} (state : S → SinkState) (old new : S) (workers : ℕ) (day : Day) (rest : List ℕ) (records status : ℕ) → is_sound day ≡ true → is_line_ends rest ≡ false → Says (state old) (state new) (refused (records + 1) day_codes.Place) status →
    SaysOfMade state old new (IsOfDay workers day) (λ J. if_alone rest records (output day J)) status
says_more state old new workers day rest records status good more s =
    says_of state old new (IsOfDay workers day) (λ J. if_alone rest records (output day J)) status (plain day) (of-day workers day good)
    (inr (subst (λ b. Says (state old) (state new) (if b then done (output day (plain day)) else refused (records + 1) day_codes.Place) status) (sym more) s))

-- ---- a command over a day

-- the journal of the written order is one for any number of workers
for_any : (workers : ℕ) (day : Day) (J : History) → IsOfDay 0 day J → IsOfDay workers day J
for_any workers day J made = record { written_order = λ none. made.written_order refl; legal = made.legal; complete = made.complete; laws = made.laws }

-- that settles it
pub says_by : {S : Type 0} (state : S → SinkState) (old new : S) (command : Command) (workers : ℕ) (day : Day) (rest : List ℕ) (records status : ℕ) → command ≡ commands.Settle workers →
    SaysOfMade state old new (IsOfDay 0 day) (λ J. answer_of_day (commands.Settle 0) day J rest records) status → SaysOfMade state old new (IsOfDay (workers_of command) day) (λ J. answer_of_day command day J rest records) status
says_by state old new command workers day rest records status e s =
    subst (λ x. SaysOfMade state old new (IsOfDay (workers_of x) day) (λ J. answer_of_day x day J rest records) status) (sym e)
    (record { journal = s.journal; made = λ more. for_any workers day s.journal (s.made more); said = s.said })

-- that makes no journal of it, so that any will do
pub says_any : {S : Type 0} (state : S → SinkState) (old new : S) (command this : Command) (day : Day) (rest : List ℕ) (records status : ℕ) → is_sound day ≡ true → command ≡ this →
    ((J : History) → SaysIfRoom state old new (answer_of_day this day J rest records) status) → SaysOfMade state old new (IsOfDay (workers_of command) day) (λ J. answer_of_day command day J rest records) status
says_any state old new command this day rest records status good e said =
    says_of state old new (IsOfDay (workers_of command) day) (λ J. answer_of_day command day J rest records) status (plain day) (of-day (workers_of command) day good)
    (subst (λ x. SaysIfRoom state old new (answer_of_day x day (plain day) rest records) status) (sym e) (said (plain day)))

-- ---- a command over what was read

pub says_input : {S : Type 0} (state : S → SinkState) (old new : S) (command : Command) (bytes : List ℕ) (status : ℕ) → reads command ≡ true → SaysOneIfRoom state old new (IsInputAnswer command bytes) status → SaysOneIfRoom state old new (IsAnswer command bytes) status
says_input state old new command bytes status reading (inl none) = inl none
says_input state old new command bytes status reading (inr said) = inr (said.0, of_input command bytes said.0 reading said.1, said.2)

-- of a command that is this one
pub says_for : {S : Type 0} (state : S → SinkState) (old new : S) (command this : Command) (bytes : List ℕ) (status : ℕ) → command ≡ this → reads this ≡ true → SaysOneIfRoom state old new (IsInputAnswer this bytes) status → SaysOneIfRoom state old new (IsAnswer command bytes) status
says_for state old new command this bytes status e reading said = subst (λ c. SaysOneIfRoom state old new (IsAnswer c bytes) status) (sym e) (says_input state old new this bytes status reading said)
