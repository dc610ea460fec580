use Rattle.durable_day.proofs.DiskFacts.{fresh_disk}
use Rattle.durable_day.proofs.running.show_rest.Goals as goal

pub show_disk-requires : goal.show_disk-requires
show_disk-requires g c = record { fresh = (c.args.rest, fresh_disk c.args.rest 1 3 4294967295 c.in-Ok.disk c.in-Ok.ensures) }

pub returns-in-Ok : goal.returns-in-Ok
returns-in-Ok g c = c.show_disk.ensures c.args.rest (fresh_disk c.args.rest 1 3 4294967295 c.in-Ok.disk c.in-Ok.ensures)
