use Rattle.std.proofs.Common.{◌∙◌, ap, ℕ, Bool}
use Rattle.std.specs.Prelude.{nat_lt, ◌||◌}
use Rattle.machine.specs.Telling.History.{is_ended}
use Rattle.settle_floor.proofs.floor.Floor.is_past.Goals as goal

pub returns : goal.returns
returns c = λ day s.
    c.is_over_or_behind.ensures
    ∙ ap (λ (b : Bool). b || nat_lt c.args.first c.round.result) (c.has_ended.ensures day s)
    ∙ ap (λ (r : ℕ). is_ended c.args.self.now.journal.history || nat_lt c.args.first r) (c.round.ensures day s)
