use Rattle.std.proofs.Common.{ℕ, List, refl, sym, subst, arith}
use Rattle.cash_amounts.specs.Numbers.{numbered}
use Rattle.settle_floor.specs.Floors.{AtWork}
use Rattle.disk_model.proofs.RunFacts.{lasts_still, looks_less, looks_nowhere}
use Rattle.durable_day.proofs.store.find_by.Goals as goal

pub found-requires-clause-at_work : goal.found-requires-clause-at_work
found-requires-clause-at_work g c = subst (λ (till : List ℕ). AtWork c.args.setting.day c.args.floor (numbered till)) (sym c.in-Ok.ensures.till) c.requires.at_work

pub found-requires-clause-empty : goal.found-requires-clause-empty
found-requires-clause-empty g c = c.requires.empty

pub found-requires-clause-moves : goal.found-requires-clause-moves
found-requires-clause-moves g c = c.in-Ok.ensures.moves

pub found-requires-clause-room : goal.found-requires-clause-room
found-requires-clause-room g c = c.in-Ok.ensures.room

pub found-requires-clause-synced : goal.found-requires-clause-synced
found-requires-clause-synced g c = c.requires.synced

pub returns-in-Ok-clause-looks : goal.returns-in-Ok-clause-looks
returns-in-Ok-clause-looks g c = c.found.ensures.looks

pub returns-in-Ok-clause-opens : goal.returns-in-Ok-clause-opens
returns-in-Ok-clause-opens g c = c.found.ensures.opens

pub returns-in-Ok-clause-sure : goal.returns-in-Ok-clause-sure
returns-in-Ok-clause-sure g c = c.found.ensures.sure

pub returns-in-Err-clause-looks : goal.returns-in-Err-clause-looks
returns-in-Err-clause-looks g c = looks_less g.D.Disk.seen g.D.Disk.image g.D.Disk.clock g.D.Disk.since c.args.disk c.args.disk 0 _ (omega arith) (looks_nowhere g.D.Disk.seen g.D.Disk.image g.D.Disk.clock g.D.Disk.since c.args.disk (g.met.D.Disk.only_now c.args.disk))

pub returns-in-Err-clause-opens : goal.returns-in-Err-clause-opens
returns-in-Err-clause-opens g c = refl

pub returns-in-Err-clause-sure : goal.returns-in-Err-clause-sure
returns-in-Err-clause-sure g c = lasts_still g.D.Disk.lasts g.D.Disk.faults g.met.D.Disk.lasts_for_less c.args.disk _ _ _

pub returns-in-Ok-clause-cut : goal.returns-in-Ok-clause-cut
returns-in-Ok-clause-cut g c = c.found.ensures.cut

pub returns-in-Err-clause-cut : goal.returns-in-Err-clause-cut
returns-in-Err-clause-cut g c = tt
