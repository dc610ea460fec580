-- Rows in room of which one changes, step by step.
use Rattle.std.proofs.Common.{◌≡◌, ◌∙◌, ℕ, List, refl, ap}
use Rattle.day_facts.specs.Listed.{Rowed, with_rows}
use Rattle.day_facts.specs.Lists.{changed}
use Rattle.day_facts.proofs.RowLemmas.{changed_id, rows_same, rows_step}

module _ {X : Type 0} (n : ℕ) (first : Rowed X) where
  pub rowed_first : (f : List X → List X) → ((row : List X) → f row ≡ row) → first ≡ with_rows (changed n f first.rows) first
  rowed_first f same = ap (λ rows. with_rows rows first) (changed_id n f first.rows same)

  pub rowed_same : (f g : List X → List X) (now new : Rowed X) → now ≡ with_rows (changed n f first.rows) first → new ≡ now → ((row : List X) → f row ≡ g row) → new ≡ with_rows (changed n g first.rows) first
  rowed_same f g now new before e same =
      e ∙ (before ∙ ap (λ rows. with_rows rows first) (rows_same n f g first.rows (changed n f first.rows) (changed n f first.rows) refl refl same))

  pub rowed_step : (f change g : List X → List X) (now new : Rowed X) → now ≡ with_rows (changed n f first.rows) first → new ≡ with_rows (changed n change now.rows) now
      → ((row : List X) → change (f row) ≡ g row) → new ≡ with_rows (changed n g first.rows) first
  rowed_step f change g now new before e step =
      e
      ∙ (ap (λ (r : Rowed X). with_rows (changed n change r.rows) r) before
      ∙ ap (λ rows. with_rows rows first) (rows_step n f change g first.rows (changed n f first.rows) (changed n change (changed n f first.rows)) refl refl step))
