use Rattle.std.proofs.Common.{◌∙◌, ◌+◌, ℕ, ap, sym}
use Rattle.machine.specs.Records.Messages.{part}
use Rattle.machine.specs.Records.Reserves.{must_leave}
use Rattle.day_reasons.proofs.PutFacts.{needed_none, needed_some}
use Rattle.day_reasons.proofs.telling.needed_by_item.Goals as goal

pub returns-in-Some : goal.returns-in-Some
returns-in-Some c =
    let day = c.args.setting.now.day in
    c.with_left.ensures ∙ ap (λ (left : ℕ). c.in-Some.found.amount + left) c.must_leave.ensures.value
    ∙ needed_some day (part day c.args.n c.args.k) c.in-Some.found (must_leave day c.args.n c.args.a) (sym c.item_move.ensures ∙ c.in-Some.is)

pub returns-in-None : goal.returns-in-None
returns-in-None c =
    let day = c.args.setting.now.day in
    needed_none day (part day c.args.n c.args.k) (must_leave day c.args.n c.args.a) (sym c.item_move.ensures ∙ c.in-None.is)
