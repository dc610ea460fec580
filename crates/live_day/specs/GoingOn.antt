-- How far a day has come that goes on.
use Rattle.std.specs.Prelude.{ℕ, ◌≡◌, ◌⊎◌, true, List, [], ◌++◌}
use Rattle.live_day.specs.Answers.{is_settled_by}

-- A day has heard these bytes, as far as they count: what follows doesn't, where the first of them settle the answer.
pub record HasGone (Heard : List ℕ → Type 0) (bytes : List ℕ) : Type 0 where
  pub front : List ℕ
  pub more : List ℕ
  pub is : bytes ≡ front ++ more
  pub heard : Heard front
  pub counts : (more ≡ []) ⊎ (is_settled_by front ≡ true)
