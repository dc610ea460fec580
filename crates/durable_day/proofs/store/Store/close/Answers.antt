use Rattle.std.proofs.Common.{subst}
use Rattle.durable_day.specs.Stores.{IsStore}
use Rattle.durable_day.proofs.store.Store.close.Goals as goal

pub returns-clause-known : goal.returns-clause-known
returns-clause-known g c = subst (IsStore g.D.Disk.seen g.D.Disk.image) c.self.view_is (record {
  sound = c.self.inside.setting.sound;
  legal = c.self.invariant.at_work.opened.fits.legal;
  stands = c.self.invariant.durable.stands;
  only = c.self.invariant.durable.only;
})
