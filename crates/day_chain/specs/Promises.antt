-- What the program promises of a run.
use Rattle.std.specs.Prelude.{ℕ, suc, ◌≡◌, ◌+◌, ◌≤◌, ◌⊎◌, ⊤, true, List, [], ◌∷◌, ◌++◌, length, Option, Some, None, Err}
use Rattle.std.specs.Io.KnownBytes.{Consumes}
use Rattle.batch_records.specs.DayRecord.{Day}
use Rattle.batch_records.specs.declared.day.DayCode.{DayCode}
use Rattle.batch_records.specs.Days.{day_of_bytes}
use Rattle.batch_records.specs.DayPart.{is_line_ends}
use Rattle.program_answers.specs.Answers.{Answer}
use Rattle.program_answers.specs.Inputs.{IsTooLong}
use Rattle.program_answers.specs.Programs.{Program, Promises}
use Rattle.program_answers.specs.Runs.{HasWritten, Run}
use Rattle.day_chain.specs.declared.joining.JoinFault.{JoinFault}
use Rattle.day_chain.specs.Answers.{answer_of, longest_input}
use Rattle.day_chain.specs.Chains.{AreByYear, AreEven, AreWithin, DiffersBy, GoesOn, IsFirstDay, IsFront, NothingIsLost}
use Rattle.day_chain.specs.ChainTexts.{end_text, fault_text, parts_text, refusal_text, usage_text}
use Rattle.day_chain.specs.Statements.{by_year}

-- ---- what a text says of the bytes that were read

-- Status 0: the text is each day with its journal, and the statements over just these. The days are all bytes but for line ends
-- after them, and each statement is over all days of its year. What the first day opened with is what the last year closed with and what was set aside.
-- No amount of a statement wraps.
pub record IsWholeChain (bytes text : List ℕ) : Type 0 where
  pub told : List Day
  pub rest : List ℕ
  pub front : IsFront bytes told rest
  pub some : told ≡ [] → ⊥
  pub over : is_line_ends rest ≡ true
  pub years : AreByYear told (by_year told)
  pub even : AreEven (by_year told)
  pub within : AreWithin (by_year told)
  pub kept : NothingIsLost told
  pub is : text ≡ parts_text told ++ end_text told

-- status 3: the definition of a day refuses what stands after the days told, with this record and code
pub record IsRefusedDay (bytes text : List ℕ) : Type 0 where
  pub told : List Day
  pub rest : List ℕ
  pub front : IsFront bytes told rest
  pub goes_on : GoesOn told rest
  pub number : ℕ
  pub code : DayCode
  pub refused : day_of_bytes rest ≡ Err (number, code)
  pub is : text ≡ parts_text told ++ refusal_text (suc (length told)) number code

-- status 8: after the days told, of which this is the last, stands a day that doesn't join it
pub record IsApartDay (bytes text : List ℕ) : Type 0 where
  pub last : Day
  pub told : List Day
  pub rest : List ℕ
  pub front : IsFront bytes (last ∷ told) rest
  pub goes_on : GoesOn (last ∷ told) rest
  pub day : Day
  pub more : List ℕ
  pub next : IsFirstDay rest day more
  pub fault : JoinFault
  pub differs : DiffersBy last day fault
  pub is : text ≡ parts_text (last ∷ told) ++ fault_text (suc (length (last ∷ told))) fault

-- each answer but that of a long input is one of these
abbrev pub IsAnswer : List ℕ → Answer → Type 0
IsAnswer bytes answer =
    ((answer.status ≡ 0) × IsWholeChain bytes answer.text)
    ⊎ (((answer.status ≡ 3) × IsRefusedDay bytes answer.text) ⊎ ((answer.status ≡ 8) × IsApartDay bytes answer.text))

-- ---- the program

-- the program takes no words
abbrev pub request_of : List (List ℕ) → Option ⊤
request_of [] = Some tt
request_of _ = None

-- Memory was wanting: some days at the front of what was read were told, each joined to the one before it, and nothing more
-- was written.
pub record RanShort (run : Run) : Type 0 where
  pub bytes : List ℕ
  pub taken : Consumes run.left run.left_after bytes
  pub within : length bytes ≤ longest_input + 1
  pub told : List Day
  pub rest : List ℕ
  pub front : IsFront bytes told rest
  pub text : HasWritten run (parts_text told)

-- the answer that is defined for the bytes, which is one of those above, or says that they are too many
abbrev pub IsDefined : List ℕ → Answer → Type 0
IsDefined bytes answer =
    (answer ≡ answer_of bytes)
    × (((length bytes ≤ longest_input) × IsAnswer bytes answer) ⊎ ((answer.status ≡ 7) × IsTooLong longest_input bytes answer.text))

abbrev pub chain_program : Program ⊤
chain_program = record {
  request_of = request_of;
  usage_text = usage_text;
  reads = λ none. true;
  longest_input = longest_input;
  IsAnswer = λ none. IsDefined;
  RanShort = RanShort;
}

abbrev pub ChainPromises : Run → Type 0
ChainPromises = Promises chain_program
