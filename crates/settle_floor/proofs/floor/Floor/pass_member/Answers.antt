use Rattle.std.proofs.Common.{◌∙◌, Some, ap, subst, sym}
use Rattle.number_set.specs.Next.{IsNext}
use Rattle.ready_items.specs.Kept.{is_member}
use Rattle.settle_floor.specs.Floors.{IsIndex, IsReadyStill, OnFloor, with_ready}
use Rattle.settle_floor.proofs.floor.Floor.pass_member.Goals as goal

pub pass-requires-clause-index : goal.pass-requires-clause-index
pass-requires-clause-index c = subst (λ (f : OnFloor). IsIndex c.args.setting.now.day f.journal.history f.index) (sym c.self.view_is) c.requires.opened.index

pub pass-requires-clause-next : goal.pass-requires-clause-next
pass-requires-clause-next c = subst (λ (f : OnFloor). IsNext (is_member f.index.ready) f.index.ready.at (Some c.args.number)) (sym c.self.view_is) c.requires.next

pub returns-clause-same : goal.returns-clause-same
returns-clause-same c = c.pass.ensures.same ∙ ap (λ (f : OnFloor). with_ready f c.pass.new.self.index.ready) c.self.view_is

pub returns-clause-ready : goal.returns-clause-ready
returns-clause-ready c = subst (λ (f : OnFloor). IsReadyStill c.args.setting.now.day f.journal.history f.index.ready c.pass.new.self.index.ready) c.self.view_is c.pass.ensures.ready
