use Rattle.std.proofs.Common.{◌≡◌, ◌∙◌, ◌++◌, ◌∷◌, ◌-◌, [], ◌<◌, ap}
use Rattle.batch_records.specs.Flat.{with_entries}
use Rattle.batch_records.proofs.FlatFacts.{pushed_joined, pushed_rows}
use Rattle.batch_records.proofs.lists.Messages.push.Goals as goal

pub invariant_of-self-2 : goal.invariant_of-self-2
invariant_of-self-2 c = pushed_rows c.self.inside.records.items c.push_reserved.new.self.items c.self.inside.entries.rows c.begin_row.new.self.rows c.args.message c.self.invariant (c.push_reserved.ensures.items ∙ ap (λ rs. rs ++ c.args.message ∷ []) c.reserve.ensures.items) c.in_ok-begin_row.ensures.ok

pub returns-clause-ok : goal.returns-clause-ok
returns-clause-ok c = pushed_joined c.self.inside.records.items c.push_reserved.new.self.items c.self.inside.entries.rows c.begin_row.new.self.rows c.args.message c.self.invariant (c.push_reserved.ensures.items ∙ ap (λ rs. rs ++ c.args.message ∷ []) c.reserve.ensures.items) c.in_ok-begin_row.ensures.ok ∙ ap (λ ms. ms ++ with_entries c.args.message [] ∷ []) c.self.view_is
