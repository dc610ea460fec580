-- The words of a live day, and a run for what they ask for.
use Rattle.std.specs.Prelude.{ℕ, ◌≡◌, ◌⊎◌, Bool, false, bytes_eq, List, [], ◌∷◌}
use Rattle.refused_memory.specs.{WasRefused}
use Rattle.program_answers.specs.LivePrograms.{LiveProgram, LivePromises, LiveRun}

-- there is one word, and it is this
abbrev pub is_only : List ℕ → List (List ℕ) → Bool
is_only wanted (word ∷ []) = bytes_eq word wanted
is_only wanted _ = false

-- memory was wanting, and then nothing was read or written; or the program has run
pub record RunsIfRoom (program : LiveProgram) (run : LiveRun) : Type 0 where
  pub memory : run.status ≡ 1 → run.port_after ≡ run.port
  pub refused : run.status ≡ 1 → WasRefused
  pub runs : (run.status ≡ 1) ⊎ LivePromises program run
