use Rattle.std.proofs.Common.{◌∙◌}
use Rattle.day_page.proofs.TurnoverFacts.{none_turned}
use Rattle.day_page.proofs.movers.turnovers.Goals as goal

pub add_all-requires : goal.add_all-requires
add_all-requires c = record { none = none_turned _ _ (c.as_mut_slice.ensures.value ∙ c.in_ok-sums.ensures) }
