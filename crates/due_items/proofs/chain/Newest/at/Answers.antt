use Rattle.std.proofs.Common.{◌∙◌, ℕ, List, ap}
use Rattle.std.specs.Prelude.{slice_index_or}
use Rattle.due_items.specs.Pages.{rows_in}
use Rattle.due_items.proofs.chain.Newest.at.Goals as goal

pub returns : goal.returns
returns c =
    c.row.ensures
    ∙ (ap (λ (xs : List ℕ). slice_index_or (rows_in xs c.as_slice-2.result.now) c.args.key 0) c.as_slice.ensures.value
    ∙ (ap (λ (xs : List ℕ). slice_index_or (rows_in c.self.inside.top.items xs) c.args.key 0) c.as_slice-2.ensures.value
    ∙ ap (λ (xs : List ℕ). slice_index_or xs c.args.key 0) c.self.view_is))
