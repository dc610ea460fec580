use Rattle.disk_model.specs.Memory.{disk_seen}
use Rattle.durable_day.proofs.DiskFacts.{has_bytes, made_new, made_nothing, no_bytes}
use Rattle.std.proofs.Common.{sym, ◌∙◌}
use Rattle.durable_day.proofs.running.made.Goals as goal

pub returns-then-size-ne0-clause-store : goal.returns-then-size-ne0-clause-store
returns-then-size-ne0-clause-store c = has_bytes (disk_seen c.args.disk) c.size.result c.size.ensures c.if-size-ne0.true

pub returns-then-size-ne0-clause-cut : goal.returns-then-size-ne0-clause-cut
returns-then-size-ne0-clause-cut c = made_nothing c.args.disk (has_bytes (disk_seen c.args.disk) c.size.result c.size.ensures c.if-size-ne0.true) c.size.result c.size.ensures c.if-size-ne0.true

pub returns-in-Ok-clause-cut : goal.returns-in-Ok-clause-cut
returns-in-Ok-clause-cut c = made_new c.args.disk _ _ (no_bytes (disk_seen c.args.disk) (sym c.size.ensures ∙ c.if-size-ne0.false)) c.in-Ok.ensures.cut

pub returns-in-Err-clause-cut : goal.returns-in-Err-clause-cut
returns-in-Err-clause-cut c = made_new c.args.disk _ _ (no_bytes (disk_seen c.args.disk) (sym c.size.ensures ∙ c.if-size-ne0.false)) c.in-Err.ensures.cut
