use Rattle.std.proofs.Common.{◌+◌, arith}
use Rattle.pending_items.proofs.CycleFacts.{product_small}
use Rattle.pending_items.proofs.cycles.set_size.Goals as goal

pub overflow_mul-result : goal.overflow_mul-result
overflow_mul-result c =
    let few = c.requires.few in
    let product = product_small c.args.size (c.args.systems + 1) c.requires.size (omega (arith, few)) in
    omega (arith, product)
