-- Looks at a disk, one after the other.
use Rattle.std.specs.Prelude.{◌≡◌, ℕ, List}
use Rattle.std.proofs.Common.{◌∙◌}
use Rattle.gated_disk.proofs.AppendFacts.{runs_on}
use Rattle.frame_log.specs.Reads.{IsLookedAt}

module _ {D : Type 0} (seen : D → List ℕ) (image : D → List ℕ → Type 0) (clock : D → ℕ) (since : D → ℕ → List ℕ → Type 0) where
  pub looked_on : (a b c : D) → IsLookedAt seen image clock since a b → IsLookedAt seen image clock since b c → IsLookedAt seen image clock since a c
  looked_on a b c first second = record {
    same = second.same ∙ first.same;
    images = λ x left. first.images x (second.images x left);
    runs = runs_on clock since a b c first.runs second.runs;
  }
