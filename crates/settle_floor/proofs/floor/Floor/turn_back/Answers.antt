use Rattle.std.proofs.Common.{◌∙◌, None, ap, subst, sym}
use Rattle.number_set.specs.Next.{IsNext}
use Rattle.ready_items.specs.Kept.{is_member}
use Rattle.settle_floor.specs.Floors.{IsIndex, IsReadyStill, OnFloor, with_ready}
use Rattle.settle_floor.proofs.floor.Floor.turn_back.Goals as goal

pub turn_back-requires-clause-index : goal.turn_back-requires-clause-index
turn_back-requires-clause-index c = subst (λ (f : OnFloor). IsIndex c.args.setting.now.day f.journal.history f.index) (sym c.self.view_is) c.requires.opened.index

pub turn_back-requires-clause-none : goal.turn_back-requires-clause-none
turn_back-requires-clause-none c = subst (λ (f : OnFloor). IsNext (is_member f.index.ready) f.index.ready.at None) (sym c.self.view_is) c.requires.none

pub returns-clause-same : goal.returns-clause-same
returns-clause-same c = c.turn_back.ensures.same ∙ ap (λ (f : OnFloor). with_ready f c.turn_back.new.self.index.ready) c.self.view_is

pub returns-clause-ready : goal.returns-clause-ready
returns-clause-ready c = subst (λ (f : OnFloor). IsReadyStill c.args.setting.now.day f.journal.history f.index.ready c.turn_back.new.self.index.ready) c.self.view_is c.turn_back.ensures.ready
