use Rattle.std.proofs.Common.{◌∙◌}
use Rattle.live_day.proofs.ReadFacts.{tells_one}
use Rattle.live_day.proofs.reading.DayReader.hear_row.Goals as goal

pub returns-clause-told : goal.returns-clause-told
returns-clause-told g c = λ records r h n. tells_one records r _ _ _ (c.hear.ensures.told records r h (record { kept = c.row.ensures ∙ n.kept; number = n.number; going = n.going }))
