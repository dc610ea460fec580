use Rattle.std.proofs.Common.{arith}
use Rattle.batch_records.specs.Flat.{body_with_entries}
use Rattle.day_facts.specs.Told.{ruled}
use Rattle.day_facts.proofs.Lists.{changed_none, changed_past, changed_set}
use Rattle.day_facts.proofs.told.rule_one.Goals as goal
use Rattle.day_facts.proofs.told.rule_one.Goals.{then-b-eq0-via-then-b-eq0, then-b-eq0-via-else-b-eq0+then-b-tolds}

pub returns-then-b-eq0 : goal.returns-then-b-eq0
returns-then-b-eq0 c entries = elim c.then-b-eq0.branch [
  | then-b-eq0-via-then-b-eq0 w ↦ changed_none c.args.b (ruled c.args.place (body_with_entries c.args.body.now entries)) c.args.tolds.now w.if-b-eq0.true
  | then-b-eq0-via-else-b-eq0+then-b-tolds w ↦ changed_past c.args.b (ruled c.args.place (body_with_entries c.args.body.now entries)) c.args.tolds.now (omega (arith, w.if-b-tolds.true))
]

pub returns : goal.returns
returns c entries = changed_set c.args.b (ruled c.args.place (body_with_entries c.args.body.now entries)) c.args.tolds.now _ _ c.if-b-eq0.false c.if-b-tolds.false (c.rule.ensures entries)
