-- The entries of positions, one position further.
use Rattle.std.proofs.Common.{◌≡◌, ℕ, ◌+◌, ◌<◌, List, [], ◌∷◌, ◌++◌, length, take, get_or, Option, None, Some, refl, ap, ◌∙◌, sym, append_assoc}
use Rattle.std.specs.List.{cons_option, filter_map}
use Rattle.std.proofs.lemmas.List.{take_more}
use Rattle.std.proofs.lemmas.List.Elements.{filter_map-append}
use Rattle.batch_records.specs.declared.day.Entry.{Entry}
use Rattle.as_client.specs.declared.trade.Position.{Position}
use Rattle.as_client.specs.BatchOf.{listed}

one : (o : Option Entry) → listed o ≡ cons_option o []
one None = refl
one (Some entry) = refl

module _ (make : Position → Option Entry) where
  pub entries-more : (ps : List Position) (i : ℕ) (p : Position) → i < length ps → p ≡ get_or ps i p → (before now next : List Entry)
      → now ≡ before ++ filter_map make (take i ps) → next ≡ now ++ listed (make p) → next ≡ before ++ filter_map make (take (i + 1) ps)
  entries-more ps i p within is before now next so_far more =
      let taken : take (i + 1) ps ≡ take i ps ++ p ∷ [] = take_more ps i p within ∙ ap (λ x. take i ps ++ x ∷ []) (sym is) in
      more ∙ ap (λ es. es ++ listed (make p)) so_far ∙ append_assoc before (filter_map make (take i ps)) (listed (make p))
      ∙ ap (λ es. before ++ (filter_map make (take i ps) ++ es)) (one (make p))
      ∙ ap (λ es. before ++ es) (sym (filter_map-append make (take i ps) (p ∷ [])))
      ∙ ap (λ xs. before ++ filter_map make xs) (sym taken)
