-- What a write does to the state of a sink that compares.
use Rattle.std.proofs.Common.{◌≡◌, ◌∙◌, ◌-◌, ◌++◌, ℕ, false, List, [], ◌∷◌, length, length-append, sym, ap, subst, arith}
use Rattle.std.specs.Prelude.{nat_eq}
use Rattle.std.specs.Borrow.{GName}
use Rattle.std.specs.List.{starts_with}
use Rattle.outside_io.specs.Pieces.{Layer, Passes}
use Rattle.outside_io.proofs.PutLemmas.{passes_none}
use Rattle.live_day.specs.Comparing.{beyond}
use Rattle.live_day.proofs.PlaceFacts.{beyond_none, not_beyond}

-- what a sink that compares holds back, by the text that was written to it
abbrev pub layer : GName → List ℕ → List ℕ → Layer
layer through wanted text = record { through = through; held = length text - length (beyond wanted text) }

-- a byte is kept back
pub keeps_back : (through same : GName) (wanted wanted' text new : List ℕ) (x : ℕ) (old now : List Layer) → same ≡ through → wanted' ≡ wanted → new ≡ text ++ x ∷ [] → starts_with nat_eq text wanted ≡ false → now ≡ old →
    Passes (layer through wanted text ∷ old) (layer same wanted' new ∷ now) 1
keeps_back through same wanted wanted' text new x old now named kept grown short is =
    let before = ap (length {A = ℕ}) (not_beyond wanted text short) in
    let after : length (beyond wanted' new) ≡ 0 = (λ i. length (beyond (kept i) (grown i))) ∙ ap (length {A = ℕ}) (beyond_none wanted text x short) in
    let count = ap (length {A = ℕ}) grown in
    let sum = length-append text (x ∷ []) in
    (named, 0, omega (arith, before, after, count, sum), subst (λ (layers : List Layer). Passes old layers 0) (sym is) (passes_none old))
