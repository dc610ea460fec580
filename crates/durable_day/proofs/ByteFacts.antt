-- Bytes read at a place.
use Rattle.std.proofs.Common.{◌≡◌, ℕ, ◌+◌, ◌<◌, List, [], ◌∷◌, length, get_or, take, drop, sym, ap, ◌∙◌}
use Rattle.std.proofs.lemmas.List.{drop_more}

-- one byte, and those after it
pub byte_there : (seen buf : List ℕ) (at : ℕ) → at < length seen → buf ≡ take 1 (drop at seen) → drop at seen ≡ get_or buf 0 0 ∷ drop (at + 1) seen
byte_there seen buf at inside is =
    let d = drop_more seen at 0 inside in
    let b : buf ≡ get_or seen at 0 ∷ [] = is ∙ ap (take 1) d in
    d ∙ ap (λ (x : ℕ). x ∷ drop (at + 1) seen) (sym (ap (λ (l : List ℕ). get_or l 0 0) b))
