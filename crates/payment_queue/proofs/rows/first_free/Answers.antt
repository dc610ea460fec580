use Rattle.std.proofs.Common.{List, Bool, subst, sym, ap, ◌∙◌, arith}
use Rattle.number_set.specs.Members.{has}
use Rattle.number_set.specs.Next.{IsNext}
use Rattle.payment_queue.proofs.Slots.{first_is, some_free}
use Rattle.payment_queue.proofs.rows.first_free.Goals as goal

pub unwrap-requires : goal.unwrap-requires
unwrap-requires c = some_free c.args.rows.now c.args.free.now.set c.next.result c.requires.flags c.requires.spare c.next.ensures.next

pub returns-clause-first : goal.returns-clause-first
returns-clause-first c =
    let least = subst (IsNext (has c.args.free.now.set) 0) c.unwrap.ensures c.next.ensures.next in
    first_is c.args.rows.now c.unwrap.result (sym (ap (λ (f : List Bool). has f c.unwrap.result) c.requires.flags) ∙ least.passes)
    (λ k less. sym (ap (λ (f : List Bool). has f k) c.requires.flags) ∙ least.none_before k (omega arith) less)
