use Rattle.durable_day.proofs.store.Store.of.Goals as goal

pub returns-clause-known : goal.returns-clause-known
returns-clause-known g c = record {
  sound = c.args.setting.sound;
  legal = c.requires.at_work.opened.fits.legal;
  stands = c.requires.durable.stands;
  only = c.requires.durable.only;
}
