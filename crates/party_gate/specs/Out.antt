-- The answer of a gate to what a day tells.
use Rattle.std.specs.Prelude.{ℕ, ◌||◌, List, is_some}
use Rattle.program_answers.specs.Answers.{Answer}
use Rattle.program_answers.specs.LivePrograms.{LiveProgram}
use Rattle.party_gate.specs.Passing.{end_told, is_told_long, longest_told, status_of, told_to}

abbrev pub out_answer : List ℕ → List ℕ → Answer
out_answer name bytes = record { status = status_of (end_told name bytes) (is_told_long bytes); text = told_to name bytes }

abbrev pub out_program : List ℕ → LiveProgram
out_program name = record {
  told = told_to name;
  is_settled = λ bytes. is_some (end_told name bytes) || is_told_long bytes;
  answer = out_answer name;
  longest = longest_told;
}
