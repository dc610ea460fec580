use Rattle.disk_model.proofs.RunFacts.{looks_once}
use Rattle.durable_day.proofs.reading.read_at.Goals as goal

pub returns-clause-reads : goal.returns-clause-reads
returns-clause-reads g c = record {
  looks = looks_once g.D.Disk.seen g.D.Disk.image g.D.Disk.clock g.D.Disk.since _ _ (g.met.D.Disk.only_now c.args.disk.now) c.read.ensures.same c.read.ensures.images c.read.ensures.time;
  sure = c.read.ensures.sure;
  cut = c.read.ensures.cut;
}
