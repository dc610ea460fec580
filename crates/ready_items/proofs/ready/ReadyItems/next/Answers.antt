use Rattle.std.proofs.Common.{subst}
use Rattle.number_set.specs.Next.{IsNext}
use Rattle.ready_items.specs.Kept.{Ready, is_member}
use Rattle.ready_items.proofs.MemberFacts.{next_of_both}
use Rattle.ready_items.proofs.ready.ReadyItems.next.Goals as goal

pub returns : goal.returns
returns c = subst (λ (v : Ready). IsNext (is_member v) v.at c.least.result) c.self.view_is
    (next_of_both (record { normals = c.self.inside.normals; alone = c.self.inside.alone.set; found = c.self.inside.found; touched = c.self.inside.touched; at = c.self.inside.at }) _ _ _ c.next.ensures.next c.next-2.ensures c.least.ensures)
