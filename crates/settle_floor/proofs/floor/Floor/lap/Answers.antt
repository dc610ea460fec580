use Rattle.std.proofs.Common.{◌∙◌, ap}
use Rattle.machine.specs.Orders.Order.{append, empty_all, quiet, lap, with_time}
use Rattle.settle_floor.proofs.floor.Floor.lap.Goals as goal

pub returns-clause-lines : goal.returns-clause-lines
unfolding lap
returns-clause-lines g c =
    let day = c.args.setting.now.day in
    c.append.ensures.lines
    ∙ ap (append day c.empty_all.new.self.journal.history) (c.time_want-want.ensures day c.empty_all.ensures.at_work.opened)
    ∙ ap (with_time day) (c.empty_all.ensures.lines ∙ ap (empty_all day) (c.quiet.ensures.lines ∙ ap (quiet day) c.take_all.ensures.lines))
