-- The set has just the items that are due.
use Rattle.std.proofs.Common.{◌<◌, ◌^◌, ℕ, subst}
use Rattle.settle_floor.proofs.FirstReady.{due_count, due_inside, next_due_is}
use Rattle.settle_floor.proofs.desk.FloorDeskIndexedDesk.next_due.Goals as goal

pub returns-clause-next : goal.returns-clause-next
returns-clause-next g c = next_due_is c.args.self.now.setting.now.day c.args.self.now.journal.now.history _ c.args.from c.next.result c.args.self.now.listed c.next.ensures.next c.next.ensures.within

pub returns-clause-within : goal.returns-clause-within
returns-clause-within g c = due_inside c.args.self.now.setting.now.day c.args.self.now.journal.now.history _ c.next.result c.args.self.now.listed c.next.ensures.within

pub returns-clause-small : goal.returns-clause-small
returns-clause-small g c = subst (λ (n : ℕ). n < 2 ^ 32) (due_count c.args.self.now.setting.now.day c.args.self.now.journal.now.history _ c.args.self.now.listed) c.next.ensures.small
