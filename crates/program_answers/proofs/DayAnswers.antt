-- Which answer is defined for an input that is to be a day and something after it.
use Rattle.std.proofs.Common.{◌≡◌, ◌∙◌, ℕ, ◌<◌, ◌≤◌, List, length, Err, ap, sym}
use Rattle.std.specs.Prelude.{if◌then◌else◌}
use Rattle.std.proofs.lemmas.Bool.{le-ltb, lt-ltb}
use Rattle.batch_records.specs.DayRecord.{Day}
use Rattle.batch_records.specs.Days.{day_of_bytes}
use Rattle.batch_records.specs.Records.{day_records}
use Rattle.batch_records.specs.declared.day.DayCode.{DayCode}
use Rattle.program_answers.specs.Answers.{Answer, refused, too_long}
use Rattle.program_answers.specs.Inputs.{IsGiven, answer_of_input, answer_of_read}

module _ (longest : ℕ) (over : Day → List ℕ → ℕ → Answer) (bytes : List ℕ) where
  answer_short : length bytes ≤ longest → answer_of_input longest over bytes ≡ answer_of_read over bytes (day_of_bytes bytes)
  unfolding answer_of_input
  answer_short short = ap (λ b. if b then too_long else answer_of_read over bytes (day_of_bytes bytes)) (le-ltb longest (length bytes) short)

  pub answer_over : (day : Day) (rest : List ℕ) → IsGiven longest bytes day rest → answer_of_input longest over bytes ≡ over day rest (length (day_records bytes))
  answer_over day rest given = answer_short given.short ∙ ap (answer_of_read over bytes) given.is_day ∙ ap (λ (xs : List ℕ). over day xs (length (day_records bytes))) (sym given.is_rest)

  pub answer_refused : (number : ℕ) (code : DayCode) → length bytes ≤ longest → day_of_bytes bytes ≡ Err (number, code) → answer_of_input longest over bytes ≡ refused number code
  answer_refused number code short read = answer_short short ∙ ap (answer_of_read over bytes) read

  pub answer_long : longest < length bytes → answer_of_input longest over bytes ≡ too_long
  unfolding answer_of_input
  answer_long long = ap (λ b. if b then too_long else answer_of_read over bytes (day_of_bytes bytes)) (lt-ltb longest (length bytes) long)
