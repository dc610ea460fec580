use Rattle.std.proofs.Common.{◌∙◌, ap}
use Rattle.machine.specs.Orders.Order.{quiet}
use Rattle.settle_floor.proofs.floor.Floor.take_in.Goals as goal

pub returns-clause-lines : goal.returns-clause-lines
returns-clause-lines g c = c.quiet.ensures.lines ∙ ap (quiet c.args.setting.now.day) c.append.ensures.lines
