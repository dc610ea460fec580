use Rattle.std.proofs.Common.{subst}
use Rattle.number_set.specs.Next.{IsNext}
use Rattle.ready_items.specs.Kept.{is_member}
use Rattle.settle_floor.specs.Floors.{OnFloor}
use Rattle.settle_floor.proofs.indexed.Indexed.next_member.Goals as goal

pub returns : goal.returns
returns c = subst (λ (f : OnFloor). IsNext (is_member f.index.ready) f.index.ready.at c.next.result) c.self.view_is c.next.ensures
