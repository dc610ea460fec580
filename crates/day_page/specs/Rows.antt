-- The points of an account among those of all rows.
use Rattle.std.specs.Prelude.{ℕ, ◌≡◌, false, List, [], nat_eq}
use Rattle.std.specs.List.{flat_map}
use Rattle.std.specs.List.Sorted.{IsNonDecreasingBy}
use Rattle.day_page.specs.declared.courses.Point.{Point}

-- points stand by the numbers of their accounts
abbrev pub AreByAccount : List Point → Type 0
AreByAccount points = IsNonDecreasingBy (λ (p : Point). p.account) points

-- what tells nothing of points of other accounts tells the same of these points as of all
abbrev pub HaveAllOf : ℕ → List Point → List Point → Type 0
HaveAllOf a all own = (f : Point → List ℕ) → ((p : Point) → nat_eq p.account a ≡ false → f p ≡ []) → flat_map f own ≡ flat_map f all
