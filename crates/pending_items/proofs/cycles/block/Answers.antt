use Rattle.std.proofs.Common.{◌≡◌, ◌≤◌, length, arith}
use Rattle.cash_amounts.specs.declared.limits.TheConstants.{MAX_SYSTEMS}
use Rattle.pending_items.specs.Cycles.{system_of}
use Rattle.pending_items.proofs.CycleFacts.{few_systems, product_small, system_small}
use Rattle.pending_items.proofs.cycles.block.Goals as goal

pub overflow_mul-result : goal.overflow_mul-result
overflow_mul-result c =
    let day = c.args.setting.now.day in
    let small : system_of day c.args.n ≤ length day.systems = system_small day c.args.n in
    let few : length day.systems ≤ MAX_SYSTEMS = few_systems day c.args.setting.now.sound in
    let same : c.system_of.result ≡ system_of day c.args.n = c.system_of.ensures in
    let product = product_small c.args.size c.system_of.result c.requires (omega (arith, small, few, same)) in
    omega (arith, product)
