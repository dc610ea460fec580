use Rattle.std.proofs.Common.{refl, arith}
use Rattle.disk_model.proofs.RunFacts.{lasts_still, looks_less, looks_nowhere}
use Rattle.durable_day.proofs.store.find.Goals as goal

pub find_by-requires-clause-at_work : goal.find_by-requires-clause-at_work
find_by-requires-clause-at_work g c = c.in-Ok.ensures.at_work

pub find_by-requires-clause-empty : goal.find_by-requires-clause-empty
find_by-requires-clause-empty g c = c.in-Ok.ensures.empty

pub find_by-requires-clause-synced : goal.find_by-requires-clause-synced
find_by-requires-clause-synced g c = c.requires.synced

pub returns-in-Ok-clause-looks : goal.returns-in-Ok-clause-looks
returns-in-Ok-clause-looks g c = c.find_by.ensures.looks

pub returns-in-Ok-clause-opens : goal.returns-in-Ok-clause-opens
returns-in-Ok-clause-opens g c = c.find_by.ensures.opens

pub returns-in-Ok-clause-sure : goal.returns-in-Ok-clause-sure
returns-in-Ok-clause-sure g c = c.find_by.ensures.sure

pub returns-in-Err-clause-looks : goal.returns-in-Err-clause-looks
returns-in-Err-clause-looks g c = looks_less g.D.Disk.seen g.D.Disk.image g.D.Disk.clock g.D.Disk.since c.args.disk c.args.disk 0 _ (omega arith) (looks_nowhere g.D.Disk.seen g.D.Disk.image g.D.Disk.clock g.D.Disk.since c.args.disk (g.met.D.Disk.only_now c.args.disk))

pub returns-in-Err-clause-opens : goal.returns-in-Err-clause-opens
returns-in-Err-clause-opens g c = refl

pub returns-in-Err-clause-sure : goal.returns-in-Err-clause-sure
returns-in-Err-clause-sure g c = lasts_still g.D.Disk.lasts g.D.Disk.faults g.met.D.Disk.lasts_for_less c.args.disk _ _ _

pub returns-in-Ok-clause-cut : goal.returns-in-Ok-clause-cut
returns-in-Ok-clause-cut g c = c.find_by.ensures.cut

pub returns-in-Err-clause-cut : goal.returns-in-Err-clause-cut
returns-in-Err-clause-cut g c = tt
