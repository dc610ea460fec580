use Rattle.std.proofs.Common.{◌∙◌, ap, subst, sym}
use Rattle.settle_floor.specs.Floors.{IsIndex, IsReadyStill, OnFloor, with_ready}
use Rattle.settle_floor.proofs.floor.Floor.move_to.Goals as goal

pub move_to-requires : goal.move_to-requires
move_to-requires c = record { index = subst (λ (f : OnFloor). IsIndex c.args.setting.now.day f.journal.history f.index) (sym c.self.view_is) c.requires.opened.index }

pub returns-clause-same : goal.returns-clause-same
returns-clause-same c = c.move_to.ensures.same ∙ ap (λ (f : OnFloor). with_ready f c.move_to.new.self.index.ready) c.self.view_is

pub returns-clause-ready : goal.returns-clause-ready
returns-clause-ready c = subst (λ (f : OnFloor). IsReadyStill c.args.setting.now.day f.journal.history f.index.ready c.move_to.new.self.index.ready) c.self.view_is c.move_to.ensures.ready
