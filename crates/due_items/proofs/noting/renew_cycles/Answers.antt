-- Down the chain of the system.
use Rattle.std.proofs.Common.{◌<◌, arith}
use Rattle.due_items.specs.Chains.{system_of}
use Rattle.due_items.proofs.NotingFacts.{cycles_all, cycles_walk}
use Rattle.due_items.proofs.noting.renew_cycles.Goals as goal

pub returns-then-system_of-gt-MIDNIGHT : goal.returns-then-system_of-gt-MIDNIGHT
returns-then-system_of-gt-MIDNIGHT c = cycles_all c.args.setting.now.day c.args.facts.now c.args.index.now c.args.n _ _ c.renew_all.ensures

pub returns : goal.returns
returns c =
    let few : system_of c.args.setting.now.day c.args.n < 86401 = omega (arith, c.if-system_of-gt-MIDNIGHT.false, c.system_of.ensures) in
    cycles_walk c.args.setting.now.day c.args.facts.now c.args.index.now c.args.n _ _ _ few c.requires.end c.requires.there c.older-last.ensures.is c.renew_cycle.ensures
