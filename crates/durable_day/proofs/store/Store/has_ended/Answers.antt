use Rattle.std.proofs.Common.{◌∙◌, ap, subst}
use Rattle.commit_journal.specs.Kept.{Kept}
use Rattle.machine.specs.Telling.History.{is_ended}
use Rattle.machine.specs.Legal.{is_complete}
use Rattle.durable_day.specs.Stores.{IsStore, OnStore}
use Rattle.durable_day.proofs.GoneOn.{ends_last}
use Rattle.durable_day.proofs.store.Store.has_ended.Goals as goal

pub returns-clause-ended : goal.returns-clause-ended
returns-clause-ended g c =
    c.is_complete.ensures ∙ ap (λ (j : Kept). is_complete j.history) c.journal.ensures
    ∙ ends_last c.self.inside.setting.day c.self.inside.floor.journal.history c.self.invariant.at_work.opened.fits.legal
    ∙ ap (λ (s : OnStore _). is_ended s.history) c.self.view_is

pub returns-clause-known : goal.returns-clause-known
returns-clause-known g c = subst (IsStore g.D.Disk.seen g.D.Disk.image) c.self.view_is (record {
  sound = c.self.inside.setting.sound;
  legal = c.self.invariant.at_work.opened.fits.legal;
  stands = c.self.invariant.durable.stands;
  only = c.self.invariant.durable.only;
})
