use Rattle.std.proofs.Common.{◌∙◌, ap}
use Rattle.day_facts.specs.Listed.{with_rows}
use Rattle.day_facts.proofs.RuledRows.{noted_by_row}
use Rattle.day_facts.proofs.booked.note_booked.Goals as goal

pub returns : goal.returns
returns c = c.put_booked.ensures ∙ ap (λ rows. with_rows rows c.args.rows.now) (noted_by_row c.args.place c.args.head c.args.rows.now.rows)
