use Rattle.std.proofs.Common.{◌∙◌, ℕ, List, ap, slice_set}
use Rattle.due_items.proofs.chain.Newest.put.Goals as goal

pub returns : goal.returns
returns c = c.put_row.ensures.rows ∙ ap (λ (v : List ℕ). slice_set v c.args.key c.args.n) c.self.view_is
