-- What a keeper stands on.
use Rattle.std.proofs.Common.{◌≡◌, ◌∙◌, ◌-◌, ◌+◌, ◌++◌, ◌≤◌, ℕ, List, [], ◌∷◌, Option, ap, sym, refl, subst, arith, drop, take, length, min}
use Rattle.std.proofs.lemmas.List.{length-append, length-take}
use Rattle.std.proofs.Math.ListN.{drop_of_length-le}
use Rattle.std.proofs.KnownBytes.{Appends-nil}
use Rattle.std.specs.Io.KnownBytes.{Appends}
use Rattle.outside_io.specs.Pieces.{Layer, Passes}

-- what is taken at the top without a change below has passed all layers
pub passes_all : (layers : List Layer) (n : ℕ) → Passes layers layers n
passes_all [] n = tt
passes_all (layer ∷ layers) n = (refl, n, omega arith, passes_all layers n)

-- what was written before isn't written below
pub real_skipped : (written : Option (List ℕ)) (skip n most : ℕ) (piece : List ℕ) → n ≡ min most skip → Appends written written (drop skip (take n piece))
real_skipped written skip n most piece least =
    let short : length (take n piece) ≤ skip = omega (arith, least, length-take n piece) in
    subst (Appends written written) (sym (drop_of_length-le (take n piece) short)) (Appends-nil written)

pub real_passed : (old new : Option (List ℕ)) (skip n : ℕ) (piece : List ℕ) → skip ≡ 0 → Appends old new (take n piece) → Appends old new (drop skip (take n piece))
real_passed old new skip n piece none wrote = subst (λ (s : ℕ). Appends old new (drop s (take n piece))) (sym none) wrote

-- how much is still to be skipped
pub skips_on : (skip all n : ℕ) (old new piece : List ℕ) → skip ≡ all - length old → new ≡ old ++ take n piece → n ≤ length piece → skip - n ≡ all - length new
skips_on skip all n old new piece left grows within =
    let long : length new ≡ length old + length (take n piece) = ap (length {A = ℕ}) grows ∙ length-append old (take n piece) in
    omega (arith, left, long, length-take n piece, within)
