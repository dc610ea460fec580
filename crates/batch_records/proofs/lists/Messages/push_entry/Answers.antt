use Rattle.std.proofs.Common.{◌≡◌, ◌∙◌, ◌++◌, ◌∷◌, ◌-◌, [], ◌<◌, true, false, ap, sym, subst}
use Rattle.batch_records.specs.Flat.{HaveRows, joined}
use Rattle.batch_records.proofs.FlatFacts.{entry_joined, entry_lost, entry_rows, is_last_batch, some_row}
use Rattle.batch_records.proofs.lists.Messages.push_entry.Goals as goal

pub returns-then-not-is_last_batch-clause-ok : goal.returns-then-not-is_last_batch-clause-ok
returns-then-not-is_last_batch-clause-ok c =
    let tested : c.is_last_batch.result ≡ is_last_batch c.self.inside.records.items = c.is_last_batch.ensures ∙ ap is_last_batch c.as_slice.ensures.value in
    let last : is_last_batch c.self.inside.records.items ≡ false = sym tested ∙ c.if-not-is_last_batch.true in
    rw (← c.self.view_is) (entry_lost c.args.entry c.self.inside.records.items c.self.inside.entries.rows c.self.invariant last)

pub push-requires-clause-begun : goal.push-requires-clause-begun
push-requires-clause-begun c =
    let tested : c.is_last_batch.result ≡ is_last_batch c.self.inside.records.items = c.is_last_batch.ensures ∙ ap is_last_batch c.as_slice.ensures.value in
    let last : is_last_batch c.self.inside.records.items ≡ true = sym tested ∙ c.if-not-is_last_batch.false in
    some_row c.self.inside.records.items c.self.inside.entries.rows c.self.invariant last

pub invariant_of-self : goal.invariant_of-self
invariant_of-self c = subst (HaveRows c.self.inside.records.items) (sym c.in_err-push.ensures.err) c.self.invariant

pub invariant_of-self-2 : goal.invariant_of-self-2
invariant_of-self-2 c =
    let tested : c.is_last_batch.result ≡ is_last_batch c.self.inside.records.items = c.is_last_batch.ensures ∙ ap is_last_batch c.as_slice.ensures.value in
    let last : is_last_batch c.self.inside.records.items ≡ true = sym tested ∙ c.if-not-is_last_batch.false in
    subst (HaveRows c.self.inside.records.items) (sym c.in_ok-push.ensures.ok) (entry_rows c.args.entry c.self.inside.records.items c.self.inside.entries.rows c.self.invariant last)

pub returns-clause-ok : goal.returns-clause-ok
returns-clause-ok c =
    let tested : c.is_last_batch.result ≡ is_last_batch c.self.inside.records.items = c.is_last_batch.ensures ∙ ap is_last_batch c.as_slice.ensures.value in
    let last : is_last_batch c.self.inside.records.items ≡ true = sym tested ∙ c.if-not-is_last_batch.false in
    ap (joined c.self.inside.records.items) c.in_ok-push.ensures.ok ∙ rw (← c.self.view_is) (entry_joined c.args.entry c.self.inside.records.items c.self.inside.entries.rows c.self.invariant last)
