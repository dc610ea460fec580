use Rattle.std.proofs.Common.{◌∙◌, ap, subst, sym}
use Rattle.machine.specs.Telling.Balances.{balance}
use Rattle.ready_items.specs.Kept.{KeepsReady}
use Rattle.ready_items.specs.Room as of_ready
use Rattle.settle_floor.specs.Floors.{IsIndex, OnFloor, with_ready}
use Rattle.settle_floor.proofs.indexed.Indexed.renew_account.Goals as goal

pub returns-clause-same : goal.returns-clause-same
returns-clause-same c = ap (λ (f : OnFloor). with_ready f c.renew_account.new.self) c.self.view_is

pub returns-clause-ready : goal.returns-clause-ready
returns-clause-ready c =
    let day = c.args.setting.now.day in
    let before = subst (λ (f : OnFloor). IsIndex day f.journal.history f.index) (sym c.self.view_is) c.requires.index in
    record {
      keeps = subst (λ (f : OnFloor). KeepsReady day f.journal.history c.renew_account.new.self) c.self.view_is
          (c.renew_account.ensures.ready c.self.inside.journal.history before.due before.queued (λ low. c.requires.money low ∙ ap (λ (f : OnFloor). balance day f.journal.history c.args.a) (sym c.self.view_is)) before.ready);
      room = λ messages more there. c.renew_account.ensures.room messages more (subst (λ (f : OnFloor). of_ready.HasRoom messages more f.index.ready) (sym c.self.view_is) there);
    }
