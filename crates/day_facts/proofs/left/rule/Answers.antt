use Rattle.std.proofs.Common.{◌∙◌, ap}
use Rattle.batch_records.specs.Flat.{body_with_entries}
use Rattle.day_facts.specs.Listed.{with_rows}
use Rattle.day_facts.proofs.RuledRows.{ruled_by_row}
use Rattle.day_facts.proofs.left.rule.Goals as goal

pub returns : goal.returns
returns c entries =
    c.fell_revoked.ensures entries
    ∙ ap (λ rows. with_rows rows c.args.rows.now) (ruled_by_row c.args.setting.now.day c.args.b c.args.message.now.sender (body_with_entries c.args.message.now.body entries) c.args.rows.now.rows)
