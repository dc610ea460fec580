use Rattle.std.proofs.Common.{subst, sym}
use Rattle.day_facts.specs.Facts.{StandsFor}
use Rattle.settle_floor.specs.Floors.{OnFloor}
use Rattle.settle_floor.proofs.floor.Floor.untaken_reached.Goals as goal

pub untaken_reached-requires : goal.untaken_reached-requires
untaken_reached-requires c =
    record { stands = subst (λ (f : OnFloor). StandsFor c.args.setting.now.day f.journal.history f.index.facts) (sym c.self.view_is) c.requires.opened.index.stands }
