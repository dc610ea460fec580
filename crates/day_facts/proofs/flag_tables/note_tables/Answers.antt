use Rattle.std.proofs.Common.{Bool}
use Rattle.machine.specs.Records.Messages.{message_at}
use Rattle.day_facts.specs.Listed.{Rowed, with_rows}
use Rattle.day_facts.specs.Lists.{changed}
use Rattle.day_facts.specs.Left.{row_booked, row_rule}
use Rattle.day_facts.specs.Told.{ruled_on}
use Rattle.day_facts.proofs.TableFacts.{noted}
use Rattle.day_facts.proofs.flag_tables.note_tables.Goals as goal

pub returns : goal.returns
returns c =
    let day = c.args.setting.now.day in
    let head = c.args.head in
    let revoked = λ (r : Rowed Bool). with_rows (ruled_on (row_rule day) c.args.aim (message_at day head.msg) r.rows) r in
    noted (λ (r : Rowed Bool). with_rows (changed head.msg (row_booked head) r.rows) r) revoked revoked c.args.tables.now _ _ _ _ _ _ _ _ _
    c.requires c.note_booking.ensures c.note_booking-2.ensures c.note_objection.ensures c.note_objection-2.ensures
