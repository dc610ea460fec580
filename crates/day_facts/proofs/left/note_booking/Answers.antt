use Rattle.std.proofs.Common.{◌∙◌, ap}
use Rattle.day_facts.specs.Listed.{with_rows}
use Rattle.day_facts.proofs.RuledRows.{booked_by_row}
use Rattle.day_facts.proofs.left.note_booking.Goals as goal

pub returns : goal.returns
returns c = c.fell_booked.ensures ∙ ap (λ rows. with_rows rows c.args.rows.now) (booked_by_row c.args.head c.args.rows.now.rows)
