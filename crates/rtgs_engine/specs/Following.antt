-- How a view goes along the lines of a text.
use Rattle.std.specs.Prelude.{ℕ, ◌≡◌, ◌+◌, suc, List, ◌∷◌, length, Result, Ok, Err, MatchResult}
use Rattle.batch_records.specs.DayRecord.{Day}
use Rattle.status_messages.specs.declared.status.Status.{Status}
use Rattle.as_client.specs.Knowing.{Known, Knows}
use Rattle.as_client.specs.Views.{take_lines}

-- the view is that of the party, after some statuses
abbrev pub KnowsSome : Day → List ℕ → Known → Type 0
KnowsSome day name view = (ss : List Status) × Knows day name ss view

-- a line gave the view so many statuses more, whatever lines follow
pub record TookLine (day : Day) (name : List ℕ) (ss : List Status) (line : List ℕ) (view : Known) (more : ℕ) : Type 0 where
  pub now : List Status
  pub knows : Knows day name now view
  pub count : length now ≡ length ss + more
  pub goes_on : (k : ℕ) (lines : List (List ℕ)) → take_lines day name k ss (line ∷ lines) ≡ take_lines day name (suc k) now lines

-- a line is a status that the view refuses, whatever lines follow
abbrev pub RefusesLine : Day → List ℕ → List Status → List ℕ → Type 0
RefusesLine day name ss line = (k : ℕ) (lines : List (List ℕ)) → take_lines day name k ss (line ∷ lines) ≡ Err k

abbrev pub TakesLine : {F : Type 0} → Day → List ℕ → List Status → List ℕ → Known → Result ℕ F → Type 0
TakesLine day name ss line view result = MatchResult result (λ more. TookLine day name ss line view more) (λ fault. RefusesLine day name ss line)

-- after all lines the view took so many statuses, or it refuses the line of this number
pub record TookAll (day : Day) (name : List ℕ) (lines : List (List ℕ)) (view : Known) (count : ℕ) : Type 0 where
  pub now : List Status
  pub knows : Knows day name now view
  pub count_is : length now ≡ count
  pub taken : take_lines day name 1 List.[] lines ≡ Ok now

abbrev pub TakesAll : Day → List ℕ → List (List ℕ) → Known → Result ℕ ℕ → Type 0
TakesAll day name lines view result = MatchResult result (λ count. TookAll day name lines view count) (λ k. take_lines day name 1 List.[] lines ≡ Err k)

-- on the way: so many lines were looked at, so many statuses taken, and these lines are left
pub record OnTheWay (day : Day) (name : List ℕ) (lines left : List (List ℕ)) (view : Known) (number count : ℕ) : Type 0 where
  pub now : List Status
  pub knows : Knows day name now view
  pub count_is : length now ≡ count
  pub same : take_lines day name (suc number) now left ≡ take_lines day name 1 List.[] lines
