-- What every program has to show of its answers.
use Rattle.std.proofs.Common.{◌≡◌, ℕ, ◌<◌, false, List, length, ap, refl, inl, inr}
use Rattle.program_answers.specs.Answers.{Answer, too_long}
use Rattle.program_answers.specs.Programs.{is_no_answer}
use Rattle.durable_day.specs.declared.words.Request.{Request}
use Rattle.durable_day.specs.Answers.{longest_input}
use Rattle.durable_day.specs.Promises.{IsAnswer}

-- no answer has the status of another end
pub own_statuses : (r : Request) (bytes : List ℕ) (answer : Answer) → IsAnswer r bytes answer → is_no_answer answer.status ≡ false
own_statuses r bytes answer (inl is) = ap is_no_answer is.0
own_statuses r bytes answer (inr (inl is)) = ap is_no_answer is.0
own_statuses r bytes answer (inr (inr (inl is))) = ap is_no_answer is.0
own_statuses r bytes answer (inr (inr (inr (inl is)))) = ap is_no_answer is.0
own_statuses r bytes answer (inr (inr (inr (inr is)))) = ap is_no_answer is.0

-- a longer input is told so
pub long_answer : (r : Request) (bytes : List ℕ) → longest_input < length bytes → IsAnswer r bytes too_long
long_answer r bytes long = inr (inr (inl (refl, record { long = long; is = refl })))
