use Rattle.std.proofs.Common.{◌∙◌, ap, subst, sym}
use Rattle.ready_items.specs.Room as of_ready
use Rattle.ready_items.specs.Kept.{KeepsReady}
use Rattle.settle_floor.specs.Floors.{IsIndex, OnFloor, with_ready}
use Rattle.settle_floor.proofs.indexed.Indexed.move_to.Goals as goal

pub returns-clause-same : goal.returns-clause-same
returns-clause-same c = ap (λ (f : OnFloor). with_ready f c.move_to.new.self) c.self.view_is

pub returns-clause-ready : goal.returns-clause-ready
returns-clause-ready c =
    let day = c.args.setting.now.day in
    let before = subst (λ (f : OnFloor). IsIndex day f.journal.history f.index) (sym c.self.view_is) c.requires.index in
    record {
      keeps = subst (λ (f : OnFloor). KeepsReady day f.journal.history c.move_to.new.self) c.self.view_is (c.move_to.ensures.ready day c.self.inside.journal.history before.ready);
      room = λ messages more there. c.move_to.ensures.room messages more (subst (λ (f : OnFloor). of_ready.HasRoom messages more f.index.ready) (sym c.self.view_is) there);
    }
