use Rattle.std.proofs.Common.{◌∙◌, ◌+◌, ℕ, ap, arith}
use Rattle.pending_items.specs.Items.{arrived}
use Rattle.pending_items.proofs.rows.ItemRows.arrive.Goals as goal

pub returns-clause-rows : goal.returns-clause-rows
returns-clause-rows c = c.push.ensures.rows ∙ ap (λ (n : ℕ). arrived (n + 1) c.args.self.now) c.entry_count.ensures.count

pub returns-clause-few : goal.returns-clause-few
returns-clause-few c = let few = c.push.ensures.few in let count = c.entry_count.ensures.count in omega (arith, few, count)
