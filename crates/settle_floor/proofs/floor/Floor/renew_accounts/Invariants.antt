use Rattle.std.proofs.Common.{◌-◌, length}
use Rattle.settle_floor.proofs.MemberRuns.{AreRenewed}
use Rattle.settle_floor.proofs.floor.Floor.renew_accounts.Given as goal

abbrev pub invariant-accounts : goal.invariant-accounts
invariant-accounts g l = AreRenewed l.setting.day l.initial.self l.self l.from

abbrev pub decreases-accounts : goal.decreases-accounts
decreases-accounts g l = length l.initial.self.index.ready.touched - l.from
