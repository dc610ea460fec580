use Rattle.std.proofs.Common.{subst, sym}
use Rattle.settle_floor.specs.Floors.{IsIndex, OnFloor}
use Rattle.machine.specs.Legal.{IsLegal}
use Rattle.settle_floor.proofs.Making.{nothing_held}
use Rattle.settle_floor.proofs.floor.Floor.next_time.Goals as goal

pub at_work-desk-requires-clause-index : goal.at_work-desk-requires-clause-index
at_work-desk-requires-clause-index c = subst (λ (f : OnFloor). IsIndex c.args.setting.now.day f.journal.history f.index) (sym c.self.view_is) c.requires.opened.index

pub at_work-desk-requires-clause-kept : goal.at_work-desk-requires-clause-kept
at_work-desk-requires-clause-kept c = nothing_held c.args.setting.now.day c.self.inside.lines.journal.history c.args.setting.now.sound (subst (λ (f : OnFloor). IsLegal c.args.setting.now.day f.journal.history) (sym c.self.view_is) c.requires.opened.fits.legal)
