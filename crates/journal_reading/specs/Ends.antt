-- What every program has to show of its answers, of the programs that tell something of a legal journal.
use Rattle.std.proofs.Common.{◌≡◌, ℕ, ◌<◌, false, List, length, ap, sym, refl, inl, inr}
use Rattle.program_answers.specs.Answers.{Answer, too_long}
use Rattle.program_answers.specs.Programs.{is_no_answer}
use Rattle.program_answers.proofs.DayAnswers.{answer_long}
use Rattle.journal_reading.specs.Answers.{Told, longest_input}
use Rattle.journal_reading.specs.Programs.{IsAnswer, IsDefined}

-- no answer has the status of another end
pub own_statuses : (IsDone : List ℕ → List ℕ → Type 0) (bytes : List ℕ) (answer : Answer) → IsAnswer IsDone bytes answer → is_no_answer answer.status ≡ false
own_statuses IsDone bytes answer (inl is) = ap is_no_answer is.0
own_statuses IsDone bytes answer (inr (inl is)) = ap is_no_answer is.0
own_statuses IsDone bytes answer (inr (inr (inl is))) = ap is_no_answer is.0
own_statuses IsDone bytes answer (inr (inr (inr is))) = ap is_no_answer is.0

-- a longer input is told so
pub long_defined : (told : Told) (IsDone : List ℕ → List ℕ → Type 0) (bytes : List ℕ) → longest_input < length bytes → IsDefined told IsDone bytes too_long
long_defined told IsDone bytes long =
    (sym (answer_long longest_input _ bytes long), inr (inr (inr (refl, record { long = long; is = refl }))))
