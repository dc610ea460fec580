-- The texts of numbered items, one after another.
use Rattle.std.proofs.Common.{◌≡◌, ◌∙◌, ℕ, ◌+◌, ◌<◌, ◌≤◌, List, [], ◌∷◌, ◌++◌, sym, Ok, subst}
use Rattle.outside_io.specs.Pieces.{SinkState}
use Rattle.outside_io.specs.Calls.{Puts}
use Rattle.outside_io.proofs.PutLemmas.{has_put_none, puts_all}
pub use Rattle.outside_io.proofs.PutLemmas.{numbers_all, numbers_more, numbers_parts}

-- nothing is put where there is no text
pub puts_nothing : {T E : Type 0} (old : SinkState) (text : List ℕ) (value : T) → text ≡ [] → Puts {E = E} old old text (Ok value)
puts_nothing {T} {E} old text value none = subst (λ (bytes : List ℕ). Puts {E = E} old old bytes (Ok value)) (sym none) (puts_all old old [] value (has_put_none old))
