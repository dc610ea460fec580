-- The answer of the program, and what it says of the bytes that were read.
use Rattle.std.proofs.Common.{◌≡◌, ℕ, ◌<◌, false, List, length, ap, sym, refl, inl, inr}
use Rattle.program_answers.specs.Answers.{Answer, too_long}
use Rattle.program_answers.specs.Programs.{is_no_answer}
use Rattle.program_answers.proofs.DayAnswers.{answer_long}
use Rattle.day_reasons.specs.declared.words.Request.{Request}
use Rattle.day_reasons.specs.Promises.{IsAnswer, IsDefined, longest_input}

-- no answer has the status of another end
pub own_statuses : (r : Request) (bytes : List ℕ) (answer : Answer) → IsAnswer r bytes answer → is_no_answer answer.status ≡ false
own_statuses r bytes answer (inl is) = ap is_no_answer is.0
own_statuses r bytes answer (inr (inl is)) = ap is_no_answer is.0
own_statuses r bytes answer (inr (inr (inl is))) = ap is_no_answer is.0
own_statuses r bytes answer (inr (inr (inr is))) = ap is_no_answer is.0

-- a longer input is told so
pub long_defined : (r : Request) (bytes : List ℕ) → longest_input < length bytes → IsDefined r bytes too_long
long_defined r bytes long =
    (sym (answer_long longest_input _ bytes long), inr (inr (inr (refl, record { long = long; is = refl }))))
