-- What a log has for sure, and what an opening after a crash finds.
use Rattle.std.specs.Prelude.{◌≡◌, ◌⊎◌, ℕ, List, ◌++◌, Option, Some}

-- a text that begins with this one
pub record Begins (front whole : List ℕ) : Type 0 where
  pub rest : List ℕ
  pub is : whole ≡ front ++ rest

-- bytes in which a text is found that begins with this one
pub record Finds (text_in : List ℕ → Option (List ℕ)) (front bytes : List ℕ) : Type 0 where
  pub text : List ℕ
  pub found : text_in bytes ≡ Some text
  pub begins : Begins front text

-- bytes in which one of two texts is found
abbrev pub FindsOne : (List ℕ → Option (List ℕ)) → List ℕ → List ℕ → List ℕ → Type 0
FindsOne text_in one other bytes = (text_in bytes ≡ Some one) ⊎ (text_in bytes ≡ Some other)
